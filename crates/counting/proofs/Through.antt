-- A run that goes on through kernel entries: its counts are those of the definition's steps, and they leave nothing of it open.
-- Assumes nothing.
use Rattle.std.specs.Prelude.{List, refl, ◌≡◌}
use Rattle.std.proofs.Math.Path.{ap}
use Rattle.std.proofs.Common.{sym, ◌∙◌, arith}
use Prim.Native.Nat.{ℕ, suc, zero, ◌+◌}
use Rattle.std.proofs.Math.Numerals.{one-add}
use Rattle.machine.specs.Answers.{condition_number, states_of}
use Rattle.machine.specs.Run.{Ran, iterate, ran, stopped_ending, through_from, through_of}
use Rattle.machine.specs.Through.{later, through_later}
use Rattle.machine.specs.declared.Condition.TheVariants as condition
use Rattle.machine.specs.declared.Ending.{Ending}
use Rattle.machine.specs.declared.Ending.TheVariants as ending
use Rattle.machine.specs.declared.State.{State}
use Rattle.counting.specs.Statement.{CountedThrough, OnlyThrough, ThroughCounted, condition_after}
use Rattle.counting.specs.Steps.{did, next, next_memory, no_steps, steps_on, two_are_one, unless_stopped_lem}

-- it ends where it starts
module _ (left : ℕ) (st : State) (m : List ℕ) where
  here :
      (x : Ending) → x ≡ stopped_ending st.condition → (st.condition ≡ condition.Running → 0 ≡ left)
      → CountedThrough left st m (ran st m 0 0 x)
  unfolding iterate
  here x e all = record { stepped = no_steps st m left x; ending = e; spent = all }

  found_halted : st.condition ≡ condition.Halted → CountedThrough left st m (ran st m 0 0 ending.Halted)
  found_halted e = here ending.Halted (rw e) (λ on. let z : ◌≡◌ {A = ℕ} 1 0 = ap condition_number (sym e ∙ on) in absurd (omega arith))

  found_lost : st.condition ≡ condition.Lost → CountedThrough left st m (ran st m 0 0 ending.Lost)
  found_lost e = here ending.Lost (rw e) (λ on. let z : ◌≡◌ {A = ℕ} 2 0 = ap condition_number (sym e ∙ on) in absurd (omega arith))

-- a step before it
module _ (st : State) (m : List ℕ) (left : ℕ) (on : st.condition ≡ condition.Running) where
  goes_on :
      (t : ℕ) → t ≡ states_of (did st m) → (r : Ran) → CountedThrough left (next st m) (next_memory st m) r
      → CountedThrough (suc left) st m (later 1 t r)
  unfolding iterate
  goes_on t e r x =
      record {
        stepped = steps_on st m left on t e r x.stepped;
        ending = rw one-add x.ending;
        spent = rw one-add (λ h. ap suc (x.spent h));
      }

pub through_counted : ThroughCounted
unfolding through_of through_from iterate
through_counted zero st m =
    unless_stopped_lem (CountedThrough zero st m) st m st.condition _ (found_halted zero st m) (found_lost zero st m)
    (λ e. here zero st m ending.Spent (rw e) (λ on. refl))
through_counted (suc left) st m =
    unless_stopped_lem (CountedThrough (suc left) st m) st m st.condition _ (found_halted (suc left) st m) (found_lost (suc left) st m)
    (λ e.
    rw (through_later left (next st m) (next_memory st m) 1 (0 + states_of (did st m)))
    (goes_on st m left e _ (omega arith) _ (through_counted left (next st m) (next_memory st m))))

-- two counted runs are one: none goes on where another has ended
pub through_only : OnlyThrough
through_only allowance st m =
    two_are_one allowance st m (λ n. stopped_ending (condition_after n st m)) (CountedThrough allowance st m) (λ r c. c.stepped)
    (λ r c. c.ending)
    (λ r r' c c' l. omega (arith, c.spent (c'.stepped.running r.steps l), c'.stepped.within, l))
