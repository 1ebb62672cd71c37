-- Milliseconds that pass all at once: what the count comes to, and the remainder of its period.
-- Assumes nothing.
use Rattle.std.specs.Prelude.{Bool, cond, false, true, ◌||◌, refl, ◌≡◌, suc, zero, ℕ, ◌%◌, ◌+◌, ◌-◌, ◌<◌, ◌≤◌, leb, ltb}
use Rattle.std.proofs.Math.Bool.{or-false, or_self}
use Rattle.std.proofs.Common.{ap, ◌∙◌, add-zero, mod-eq_of_lt, zero-add, arith, le-leb, le-ltb, leb-false, leb-true, lt-ltb, ltb-false, ltb-true}
use Rattle.std.proofs.Math.Nat.{add-mod_left}
use Rattle.word.specs.Cases.{rest}
use Rattle.timer.specs.Time.{counted, counts, elapsed, fires, interrupts, started, ticked}
use Rattle.timer.specs.declared.Elapsed.{Elapsed}
use Rattle.timer.specs.declared.Timer.{Timer}

-- what a first millisecond brings the count to, before it returns to 0
abbrev pub reached : Timer → ℕ
reached t = cond (ltb t.count t.period) (t.count + 1) t.period

-- a timer that counts and has come to `total` milliseconds since its count was 0
unfoldable pub come_to : ℕ → Timer → Elapsed
come_to total t =
    cond (ltb total t.period) (record { timer = counted t total t.fired; raised = false })
    (record { timer = counted t (total % t.period) true; raised = interrupts t })

-- a timer that does not count stays as it is
pub idle : (n : ℕ) (t : Timer) → counts t ≡ false → elapsed n t ≡ record { timer = t; raised = false }
unfolding elapsed ticked fires
idle zero t e = refl
idle (suc n) t e = rw (e, idle n t e)

-- a timer that counts has a period
pub has_period : (t : Timer) → counts t ≡ true → 0 < t.period
unfolding counts
has_period t on = ltb-true 0 t.period (rest (started t) _ on)

-- a millisecond that reaches the period, and what comes behind it
behind_firing :
    (n : ℕ) (t : Timer) → counts t ≡ true → t.period ≤ t.count + 1 → elapsed n (counted t 0 true) ≡ come_to n (counted t 0 true)
    → elapsed (suc n) t ≡ come_to (t.period + n) t
unfolding elapsed ticked fires come_to
behind_firing n t on h e =
    rw (on, le-leb t.period (t.count + 1) h, e, le-ltb (t.period + n) t.period (omega arith), add-mod_left t.period n)
    (by (ltb n t.period) refl)
  where
    later : Bool → Elapsed
    later b =
        cond b (record { timer = counted t n true; raised = false }) (record { timer = counted t (n % t.period) true; raised = interrupts t })

    by :
        (b : Bool) → ltb n t.period ≡ b
        → ◌≡◌ {A = Elapsed} (record { timer = (later b).timer; raised = interrupts t || (later b).raised })
        (record { timer = counted t (n % t.period) true; raised = interrupts t })
    by true q = rw (or-false (interrupts t), mod-eq_of_lt (ltb-true n t.period q))
    by false q = rw (or_self (interrupts t))

-- milliseconds of a timer whose count is below its period
pub below : (n : ℕ) (t : Timer) → counts t ≡ true → t.count < t.period → elapsed n t ≡ come_to (t.count + n) t
unfolding elapsed ticked fires come_to counts
below zero t on h = rw (add-zero t.count, lt-ltb t.count t.period h)
below (suc n) t on h = by (leb t.period (t.count + 1)) refl (λ x o l. below n x o l)
  where
    by :
        (b : Bool) → leb t.period (t.count + 1) ≡ b
        → ((x : Timer) → counts x ≡ true → x.count < x.period → elapsed n x ≡ come_to (x.count + n) x)
        → elapsed (suc n) t ≡ come_to (t.count + suc n) t
    by true q later =
        let l : t.period ≤ t.count + 1 = leb-true _ _ q in
        let total : t.count + suc n ≡ t.period + n = omega arith in
        rw total (behind_firing n t on l (later (counted t 0 true) on (omega arith) ∙ ap (λ (k : ℕ). come_to k (counted t 0 true)) (zero-add n)))
    by false q later =
        let l : t.count + 1 < t.period = leb-false _ _ q in
        let total : t.count + suc n ≡ t.count + 1 + n = omega arith in
        rw (on, q, total) (later (counted t (t.count + 1) t.fired) on l)

-- milliseconds of a timer that counts: the first of them brings every count to its period or below
pub at_once : (n : ℕ) (t : Timer) → counts t ≡ true → 0 < n → elapsed n t ≡ come_to (reached t + (n - 1)) t
unfolding counts
at_once zero t on h = absurd (omega arith)
at_once (suc n) t on h = by (ltb t.count t.period) refl
  where
    by : (b : Bool) → ltb t.count t.period ≡ b → elapsed (suc n) t ≡ come_to (cond b (t.count + 1) t.period + (suc n - 1)) t
    by true q =
        let total : t.count + 1 + (suc n - 1) ≡ t.count + suc n = omega arith in
        rw total (below (suc n) t on (ltb-true _ _ q))
    by false q =
        let l : t.period ≤ t.count = ltb-false _ _ q in
        let less : suc n - 1 ≡ n = omega arith in
        let later : elapsed n (counted t 0 true) ≡ come_to n (counted t 0 true) =
        below n (counted t 0 true) on (has_period t on) ∙ ap (λ (k : ℕ). come_to k (counted t 0 true)) (zero-add n)
        in
        rw less (behind_firing n t on (omega arith) later)

-- any timer, all at once: it computes as quickly for many milliseconds as for one
unfoldable pub quick : ℕ → Timer → Elapsed
quick zero t = record { timer = t; raised = false }
quick (suc n) t = cond (counts t) (come_to (reached t + n) t) (record { timer = t; raised = false })

pub is_quick : (n : ℕ) (t : Timer) → elapsed n t ≡ quick n t
unfolding elapsed quick
is_quick zero t = refl
is_quick (suc n) t = by (counts t) refl
  where
    by : (b : Bool) → counts t ≡ b → elapsed (suc n) t ≡ cond b (come_to (reached t + n) t) (record { timer = t; raised = false })
    by true q =
        let less : suc n - 1 ≡ n = omega arith in
        at_once (suc n) t q (omega arith) ∙ rw less
    by false q = idle (suc n) t q
