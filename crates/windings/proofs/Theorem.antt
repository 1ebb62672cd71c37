-- Balance, what stands, and the first tick over: proved.
-- Assumes nothing.
use Rattle.std.specs.Prelude.{Bool, false, true, List, [], ◌∷◌, ◌≡◌, eqb, ltb, get_or, length}
use Rattle.std.proofs.Math.Path.{refl}
use Prim.Native.Nat.{suc, zero, ℕ, ◌*◌, ◌+◌, ◌-◌, ◌<◌, ◌≤◌}
use Rattle.std.proofs.Common.{add-one, arith, eqb-true, ltb-false, ltb-true}
use Rattle.std.proofs.lemmas.Bool.{eqb-false}
use Rattle.std.proofs.Math.Dec.{eqb-suc-zero}
use Rattle.barrel.specs.Barrel.{first_over}
use Rattle.barrel.specs.Laws.{taken_within}
use Rattle.winder.specs.Laws.{standings_long, start_bounded, start_number, ticks_bounded, ticks_number, ticks_plus}
use Rattle.winder.specs.Simulation.{Simulated, Winder, after_tick, standings, start_of, tick_of, ticks_of}
use Rattle.winder.specs.declared.Stage.{Stage}
use Rattle.windings.specs.Statement.{Balance, EachStands, First, FirstOver, taken, takes_next, winds_next, wound}

-- ---- balance

module _ (w : Winder) where
  tick_balance : (at : Stage) (m : List ℕ) → (tick_of w at m).stage.standing + takes_next w at m ≡ at.standing + winds_next w at m
  unfolding tick_of after_tick
  tick_balance at m = omega (arith, taken_within w.rundown (at.tick + 1) (at.standing + winds_next w at m))

  balanced : (n : ℕ) (at : Stage) (m : List ℕ) → (ticks_of w n at m).stage.standing + taken w n at m ≡ at.standing + wound w n at m
  unfolding ticks_of wound taken
  balanced zero at m = refl
  balanced (suc n) at m = omega (arith, tick_balance at m, balanced n (tick_of w at m).stage (tick_of w at m).memory)

pub balance : Balance
balance w i n at m =
    let x : Simulated = ticks_of w i at m in
    rw (ticks_plus w i n at m) (balanced w n x.stage x.memory)

-- ---- what stands

module _ (w : Winder) where
  stood_at :
      (n : ℕ) (at : Stage) (m : List ℕ) (k : ℕ) → k < n → get_or (standings w n at m) k 0 ≡ (ticks_of w (suc k) at m).stage.standing
  unfolding standings ticks_of
  stood_at zero at m k h = absurd (omega arith)
  stood_at (suc n) at m zero h = refl
  stood_at (suc n) at m (suc k) h = stood_at n (tick_of w at m).stage (tick_of w at m).memory k (omega arith)

pub stands : EachStands
stands w n st m k h =
    let at : Stage = start_of st in
    let e : get_or (standings w n at m) k 0 ≡ (ticks_of w (k + 1) at m).stage.standing = rw (add-one k) (stood_at w n at m k h) in
    record {
      left = e;
      small = omega (arith, e, ticks_bounded w (k + 1) at m (start_bounded st), ticks_number w (k + 1) at m, start_number st);
    }

-- ---- the first tick over

-- the first of a list that is over, its ticks counted from `tick` + 1 on
first_in : ℕ → List ℕ → ℕ → ℕ → ℕ
first_in limit [] tick before = before
first_in limit (s ∷ stood) tick before = first_in limit stood (tick + 1) (first_over before (tick + 1) (ltb limit s))

over_by :
    (w : Winder) (n : ℕ) (at : Stage) (m : List ℕ)
    → (ticks_of w n at m).stage.over ≡ first_in (w.turns * w.notches) (standings w n at m) at.tick at.over
unfolding ticks_of standings tick_of after_tick first_in
over_by w zero at m = refl
over_by w (suc n) at m = over_by w n (tick_of w at m).stage (tick_of w at m).memory

found_stays : (limit : ℕ) (stood : List ℕ) (tick before : ℕ) → first_in limit stood tick (suc before) ≡ suc before
unfolding first_in first_over
found_stays limit [] tick before = refl
found_stays limit (s ∷ stood) tick before = rw (eqb-suc-zero before) (found_stays limit stood (tick + 1) before)

-- counted from a tick
record From (limit : ℕ) (stood : List ℕ) (tick over : ℕ) : Type 0 where
  none : over ≡ 0 → (k : ℕ) → k < length stood → get_or stood k 0 ≤ limit
  some : (over ≡ 0 → ⊥) → (tick + 1 ≤ over) × (over ≤ tick + length stood) × (limit < get_or stood (over - tick - 1) 0)
  before : (k : ℕ) → tick + k + 1 < over → get_or stood k 0 ≤ limit

found_from : (limit s tick : ℕ) (stood : List ℕ) → limit < s → From limit (s ∷ stood) tick (tick + 1)
found_from limit s tick stood h =
    let e : tick + 1 - tick - 1 ≡ 0 = omega arith in
    record {
      none = λ z. absurd (omega arith);
      some = λ _. (omega arith, omega arith, rw e h);
      before = λ k l. absurd (omega arith);
    }

later_from :
    (limit s tick over : ℕ) (stood : List ℕ) → s ≤ limit → From limit stood (tick + 1) over → From limit (s ∷ stood) tick over
later_from limit s tick over stood h f =
    record { none = λ z. none z; some = λ z. some z; before = before }
  where
    none : over ≡ 0 → (k : ℕ) → k < length (s ∷ stood) → get_or (s ∷ stood) k 0 ≤ limit
    none z zero l = h
    none z (suc k) l = f.none z k (omega arith)

    some : (over ≡ 0 → ⊥) → (tick + 1 ≤ over) × (over ≤ tick + length (s ∷ stood)) × (limit < get_or (s ∷ stood) (over - tick - 1) 0)
    some z =
        let g = f.some z in
        let e : over - tick - 1 ≡ suc (over - (tick + 1) - 1) = omega arith in
        (omega arith, omega arith, rw e g.2)

    before : (k : ℕ) → tick + k + 1 < over → get_or (s ∷ stood) k 0 ≤ limit
    before zero l = h
    before (suc k) l = f.before k (omega arith)

first_from : (limit : ℕ) (stood : List ℕ) (tick : ℕ) → From limit stood tick (first_in limit stood tick 0)
unfolding first_in first_over
first_from limit [] tick =
    record { none = λ _ k l. absurd (omega arith); some = λ z. absurd (z refl); before = λ k l. absurd (omega arith) }
first_from limit (s ∷ stood) tick = by (ltb limit s) refl (first_from limit stood (tick + 1))
  where
    by :
        (t : Bool) → ltb limit s ≡ t → From limit stood (tick + 1) (first_in limit stood (tick + 1) 0)
        → From limit (s ∷ stood) tick (first_in limit stood (tick + 1) (first_over 0 (tick + 1) (ltb limit s)))
    by true e r =
        let f : first_in limit stood (tick + 1) (tick + 1) ≡ tick + 1 =
        rw (add-one tick) (found_stays limit stood (suc tick) tick) in
        rw (e, f) (found_from limit s tick stood (ltb-true limit s e))
    by false e r = rw e (later_from limit s tick _ stood (ltb-false limit s e) r)

-- told 0 where no tick is over, since one that is told is over
zero_of :
    (limit over : ℕ) (stood : List ℕ) → ((k : ℕ) → k < length stood → get_or stood k 0 ≤ limit)
    → ((over ≡ 0 → ⊥) → (1 ≤ over) × (over ≤ length stood) × (limit < get_or stood (over - 1) 0)) → over ≡ 0
zero_of limit over stood h some = by (eqb over 0) refl
  where
    by : (t : Bool) → eqb over 0 ≡ t → over ≡ 0
    by true e = eqb-true over 0 e
    by false e =
        let g = some (eqb-false over 0 e) in
        let small : get_or stood (over - 1) 0 ≤ limit = h (over - 1) (omega (arith, g.0, g.1)) in
        absurd (omega (arith, g.2, small))

first_of : (limit : ℕ) (stood : List ℕ) → First limit (length stood) (λ k. get_or stood k 0) (first_in limit stood 0 0)
first_of limit stood =
    let over : ℕ = first_in limit stood 0 0 in
    let f : From limit stood 0 over = first_from limit stood 0 in
    let last : over - 0 - 1 ≡ over - 1 = omega arith in
    let some : (over ≡ 0 → ⊥) → (1 ≤ over) × (over ≤ length stood) × (limit < get_or stood (over - 1) 0) =
    λ z. (let g = f.some z in (omega arith, omega arith, rw last at g.2)) in
    record { none = f.none; none_is_zero = λ h. zero_of limit over stood h some; some = some; before = λ k l. f.before k (omega arith) }

pub first : FirstOver
unfolding start_of
first w n st m =
    let stood : List ℕ = standings w n (start_of st) m in
    rw (over_by w n (start_of st) m)
    (rw (standings_long w n (start_of st) m) at (first_of (w.turns * w.notches) stood))

-- the same of numbers that are equal for these ticks
pub first_same :
    {limit n over : ℕ} (f g : ℕ → ℕ) → ((k : ℕ) → k < n → g k ≡ f k) → First limit n f over → First limit n g over
first_same {limit} {n} {over} f g same x =
    record {
      none = λ z k l. rw (same k l) (x.none z k l);
      none_is_zero = λ h. x.none_is_zero (λ k l. rw (← same k l) (h k l));
      some = λ z.
          (let y = x.some z in
          (y.0, y.1, rw (same (over - 1) (omega (arith, y.0, y.1))) y.2));
      before = λ k l.
          (let y = x.some (λ z. omega (arith, z, l)) in
          rw (same k (omega (arith, l, y.1))) (x.before k l));
    }
