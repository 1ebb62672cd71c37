-- A run's counts are those of the definition's steps, and they leave nothing of a run open.
-- Assumes nothing.
use Rattle.std.specs.Prelude.{false, List, ◌≡◌}
use Rattle.std.proofs.Common.{true≢false, sym, ◌∙◌, one-add, arith}
use Rattle.std.proofs.Math.Path.{refl, ap}
use Prim.Native.Nat.{ℕ, suc, zero, ◌+◌, ◌<◌}
use Rattle.machine.specs.Answers.{states_of}
use Rattle.machine.specs.Kept.{entered_condition}
use Rattle.machine.specs.Run.{Ran, iterate, ran, run_from, run_of, unless_entered}
use Rattle.machine.specs.Through.{later, run_later}
use Rattle.machine.specs.declared.Condition.{Condition}
use Rattle.machine.specs.declared.Condition.TheVariants as condition
use Rattle.machine.specs.declared.Ending.{Ending}
use Rattle.machine.specs.declared.Ending.TheVariants as ending
use Rattle.machine.specs.declared.Event.{Event}
use Rattle.machine.specs.declared.Event.TheVariants as event
use Rattle.machine.specs.declared.State.{State}
use Rattle.counting.specs.Statement.{Calm, CalmLast, Counted, Ended, OnlyRun, RunCounted, Stepped, condition_after, entry, event_at}
use Rattle.counting.specs.Steps.{did, next, next_memory, no_steps, steps_on, two_are_one, unless_stopped_lem}

-- ---- a run that ends where it starts

module _ (left : ℕ) (st : State) (m : List ℕ) where
  here : (x : Ending) → Ended left st m 0 x → Counted left st m (ran st m 0 0 x)
  here x e = record { stepped = no_steps st m left x; not_entered = λ k h. absurd (omega arith); ended = e }

-- ---- a step before a run

module _ (st : State) (m : List ℕ) (left : ℕ) (on : st.condition ≡ condition.Running) where
  -- the step was no entry, and the run goes on
  module _ (calm : entry (did st m) ≡ false) where
    calm_last : (n : ℕ) → CalmLast n (next st m) (next_memory st m) → CalmLast (suc n) st m
    unfolding iterate
    calm_last n h zero e = calm
    calm_last n h (suc k) e = h k (omega arith)

    calm_on : (n : ℕ) → Calm n (next st m) (next_memory st m) → Calm (suc n) st m
    unfolding iterate
    calm_on n h zero l = calm
    calm_on n h (suc k) l = h k (omega arith)

    ends : (n : ℕ) (x : Ending) → Ended left (next st m) (next_memory st m) n x → Ended (suc left) st m (suc n) x
    unfolding iterate
    ends n ending.Spent e = record { all = omega arith; running = e.running; not_entered = calm_last n e.not_entered }
    ends n (ending.Entered number pc flag) e =
        record { last = suc e.last; counted = ap suc e.counted; event = e.event; running = e.running }
    ends n ending.Halted e = e
    ends n ending.Lost e = e

    goes_on : (t : ℕ) → t ≡ states_of (did st m) → (r : Ran) → Counted left (next st m) (next_memory st m) r → Counted (suc left) st m (later 1 t r)
    goes_on t e r x =
        let steps : Stepped (suc left) st m (later 1 t r) = steps_on st m left on t e r x.stepped in
        record {
          stepped = steps;
          not_entered = rw one-add (calm_on r.steps x.not_entered);
          ended = rw one-add (ends r.steps r.ending x.ended);
        }

  -- the step was an entry, and the run ends
  IsEntry :
      (number pc flag : ℕ) → did st m ≡ event.Entered number pc flag
      → Counted (suc left) st m (ran (next st m) (next_memory st m) 1 12 (ending.Entered number pc flag))
  unfolding iterate
  IsEntry number pc flag e =
      let x : Ending = ending.Entered number pc flag in
      record {
        stepped = steps_on st m left on 12 (rw e) (ran (next st m) (next_memory st m) 0 0 x) (no_steps (next st m) (next_memory st m) left x);
        not_entered = λ k h. absurd (omega arith);
        ended = record { last = 0; counted = refl; event = e; running = entered_condition st m number pc flag e ∙ on };
      }

  unless_entered_lem :
      (e : Event) (r : Ran) → did st m ≡ e → Counted left (next st m) (next_memory st m) r
      → let t : ℕ = 0 + states_of e in Counted (suc left) st m (unless_entered e (next st m) (next_memory st m) 1 t (later 1 t r))
  unless_entered_lem (event.Executed cost) r d x = goes_on (rw d) _ (rw d (omega arith)) r x
  unless_entered_lem (event.Entered number pc flag) r d x = IsEntry number pc flag d
  unless_entered_lem event.Halted r d x = goes_on (rw d) _ (rw d) r x
  unless_entered_lem event.Lost r d x = goes_on (rw d) _ (rw d) r x

-- "Run's counted steps equal the number of definition steps to the named ending."
pub counted : RunCounted
unfolding run_of run_from iterate
counted zero st m =
    unless_stopped_lem (Counted zero st m) st m st.condition _ (here zero st m ending.Halted) (here zero st m ending.Lost)
    (λ e. here zero st m ending.Spent (record { all = refl; running = e; not_entered = λ k h. absurd (omega arith) }))
counted (suc left) st m =
    unless_stopped_lem (Counted (suc left) st m) st m st.condition _ (here (suc left) st m ending.Halted) (here (suc left) st m ending.Lost)
    (λ e.
    rw (run_later left (next st m) (next_memory st m) 1 (0 + states_of (did st m)))
    (unless_entered_lem st m left e (did st m) _ refl (counted left (next st m) (next_memory st m))))

-- ---- nothing is open

-- the ending of a run after n steps, by the condition and what the last step did
by_event : Event → Ending
by_event (event.Executed cost) = ending.Spent
by_event (event.Entered number pc flag) = ending.Entered number pc flag
by_event event.Halted = ending.Spent
by_event event.Lost = ending.Spent

by_condition : Condition → ℕ → State → List ℕ → Ending
by_condition condition.Running zero st m = ending.Spent
by_condition condition.Running (suc k) st m = by_event (event_at k st m)
by_condition condition.Halted n st m = ending.Halted
by_condition condition.Lost n st m = ending.Lost

by_event_lem : (e : Event) → entry e ≡ false → ending.Spent ≡ by_event e
unfolding by_event
by_event_lem (event.Executed cost) h = refl
by_event_lem (event.Entered number pc flag) h = absurd (true≢false h)
by_event_lem event.Halted h = refl
by_event_lem event.Lost h = refl

module _ (allowance : ℕ) (st : State) (m : List ℕ) where
  spent : (n : ℕ) → CalmLast n st m → ending.Spent ≡ by_condition condition.Running n st m
  unfolding by_condition
  spent zero h = refl
  spent (suc k) h = by_event_lem (event_at k st m) (h k refl)

  named : (n : ℕ) (x : Ending) → Ended allowance st m n x → x ≡ by_condition (condition_after n st m) n st m
  unfolding by_condition by_event
  named n ending.Spent e = rw e.running (spent n e.not_entered)
  named n (ending.Entered number pc flag) e = rw e.running (rw e.counted (rw e.event))
  named n ending.Halted e = rw e
  named n ending.Lost e = rw e

  -- no counted run goes on where one has ended
  goes_further : (n : ℕ) (x : Ending) → Ended allowance st m n x → (r : Ran) → Counted allowance st m r → n < r.steps → ⊥
  goes_further n ending.Spent e r c l = omega (arith, c.stepped.within)
  goes_further n (ending.Entered number pc flag) e r c l =
      true≢false (ap entry (sym e.event) ∙ c.not_entered e.last (omega arith))
  goes_further n ending.Halted e r c l = let z : ◌≡◌ {A = ℕ} 0 1 = cc (c.stepped.running n l) in omega arith
  goes_further n ending.Lost e r c l = let z : ◌≡◌ {A = ℕ} 0 1 = cc (c.stepped.running n l) in omega arith

-- two counted runs are one
pub only : OnlyRun
only allowance st m =
    two_are_one allowance st m (λ n. by_condition (condition_after n st m) n st m) (Counted allowance st m) (λ r c. c.stepped)
    (λ r c. named allowance st m r.steps r.ending c.ended)
    (λ r r' c c'. goes_further allowance st m r.steps r.ending c.ended r' c')
