-- Laws of the simulation: its parts one behind the other, and its bounds.
-- Assumes nothing.
use mathlib.Core.List.{List, ◌++◌, ◌∷◌}
use Rattle.std.proofs.Math.Path.{ap, refl}
use Rattle.std.specs.Prelude.{◌≡◌, length}
use Prim.Native.Nat.{suc, zero, ℕ, ◌+◌, ◌-◌, ◌≤◌}
use Rattle.std.proofs.Math.Nat.{le_trans}
use Rattle.std.proofs.Common.{suc-add, zero-add}
use native.Mathlib.Omega.{arith}
use Rattle.barrel.specs.Barrel.{wound_by}
use Rattle.barrel.specs.Laws.{wound_small}
use Rattle.machine.specs.declared.State.{State}
use Rattle.winder.specs.Call.{Lent, lent}
use Rattle.winder.specs.Simulation.{Simulated, Winder, after_tick, standings, start_of, tick_of, ticks_of}
use Rattle.winder.specs.declared.Stage.{Stage}

-- no more stand than ticks have been
abbrev pub Bounded : Stage → Type 0
Bounded at = at.standing ≤ at.tick

module _ (w : Winder) where
  -- ---- ticks one after the other

  pub ticks_plus :
      (n k : ℕ) (at : Stage) (m : List ℕ) → let x : Simulated = ticks_of w n at m in ticks_of w (n + k) at m ≡ ticks_of w k x.stage x.memory
  unfolding ticks_of
  ticks_plus zero k at m = rw (zero-add k)
  ticks_plus (suc n) k at m = rw (suc-add n k) (ticks_plus n k (tick_of w at m).stage (tick_of w at m).memory)

  pub standings_plus :
      (n k : ℕ) (at : Stage) (m : List ℕ) → let x : Simulated = ticks_of w n at m in
      standings w (n + k) at m ≡ standings w n at m ++ standings w k x.stage x.memory
  unfolding ticks_of standings
  standings_plus zero k at m = rw (zero-add k)
  standings_plus (suc n) k at m =
      let x : Simulated = tick_of w at m in
      rw (suc-add n k) (ap (λ (r : List ℕ). x.stage.standing ∷ r) (standings_plus n k x.stage x.memory))

  pub standings_long : (n : ℕ) (at : Stage) (m : List ℕ) → length (standings w n at m) ≡ n
  unfolding standings
  standings_long zero at m = refl
  standings_long (suc n) at m = ap suc (standings_long n (tick_of w at m).stage (tick_of w at m).memory)

  -- ---- bounds

  tick_number : (at : Stage) (m : List ℕ) → (tick_of w at m).stage.tick ≡ at.tick + 1
  unfolding tick_of after_tick
  tick_number at m = refl

  -- at most one more than stood before
  rise_small : (standing output taken : ℕ) → standing + wound_by output - taken ≤ standing + 1
  rise_small standing output taken = omega (arith, wound_small output)

  pub tick_bounded : (at : Stage) (m : List ℕ) → Bounded at → Bounded (tick_of w at m).stage
  unfolding tick_of after_tick
  tick_bounded at m h = le_trans (rise_small at.standing _ _) (omega arith)

  pub ticks_number : (n : ℕ) (at : Stage) (m : List ℕ) → (ticks_of w n at m).stage.tick ≡ at.tick + n
  unfolding ticks_of
  ticks_number zero at m = omega arith
  ticks_number (suc n) at m = omega (arith, ticks_number n (tick_of w at m).stage (tick_of w at m).memory, tick_number at m)

  pub ticks_bounded : (n : ℕ) (at : Stage) (m : List ℕ) → Bounded at → Bounded (ticks_of w n at m).stage
  unfolding ticks_of
  ticks_bounded zero at m h = h
  ticks_bounded (suc n) at m h = ticks_bounded n (tick_of w at m).stage (tick_of w at m).memory (tick_bounded at m h)

-- the stage after a tick has the next number, and no more stand
module _ (w : Winder) (at : Stage) {at' : Stage} (m : List ℕ) (e : at' ≡ (tick_of w at m).stage) where
  pub tick_follows : at'.tick ≡ at.tick + 1
  tick_follows = rw e (tick_number w at m)

  pub tick_stands : Bounded at → at'.standing ≤ at.tick + 1
  tick_stands h = rw e (omega (arith, tick_number w at m, tick_bounded w at m h))

-- ---- before the first tick

pub start_bounded : (st : State) → Bounded (start_of st)
unfolding start_of
start_bounded st = omega arith

pub start_number : (st : State) → (start_of st).tick ≡ 0
unfolding start_of
start_number st = refl

-- ---- what is lent

pub lent_is : {m b places : List ℕ} (x : Lent) → m ≡ x.memory → b ≡ x.image → places ≡ x.places → lent m b places ≡ x
lent_is x m b places = λ i. lent (m i) (b i) (places i)
