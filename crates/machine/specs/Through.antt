-- Laws of runs: what steps and states done before add to the counts; and runs that go on through kernel entries, by the run to the next entry.
-- Assumes nothing.
use Rattle.std.specs.Prelude.{List, ◌≡◌}
use Rattle.std.proofs.Math.Path.{refl}
use Prim.Native.Nat.{ℕ, suc, zero, ◌+◌, ◌-◌}
use Rattle.std.proofs.Math.Nat.{add_assoc}
use Rattle.std.proofs.Common.{add-zero, arith}
use Rattle.machine.specs.Answers.{states_of}
use Rattle.machine.specs.Enter.{Outcome}
use Rattle.machine.specs.Run.{Ran, ran, run_from, run_of, through_from, through_of, unless_entered, unless_stopped}
use Rattle.machine.specs.Step.{step_of}
use Rattle.machine.specs.declared.Condition.{Condition}
use Rattle.machine.specs.declared.Condition.TheVariants as condition
use Rattle.machine.specs.declared.Ending.{Ending}
use Rattle.machine.specs.declared.Ending.TheVariants as ending
use Rattle.machine.specs.declared.Event.{Event}
use Rattle.machine.specs.declared.Event.TheVariants as event
use Rattle.machine.specs.declared.State.{State}

-- ---- counts

-- a run after n steps in t states
abbrev pub later : ℕ → ℕ → Ran → Ran
later n t r = ran r.state r.memory (n + r.steps) (t + r.states) r.ending

module _ (n t : ℕ) where
  stopped_later :
      (c : Condition) (st : State) (m : List ℕ) (k u : ℕ) (r r' : Ran) → (r ≡ later n t r')
      → unless_stopped c st m (n + k) (t + u) r ≡ later n t (unless_stopped c st m k u r')
  stopped_later condition.Running st m k u r r' e = e
  stopped_later condition.Halted st m k u r r' e = refl
  stopped_later condition.Lost st m k u r r' e = refl

  entered_later :
      (x : Event) (st : State) (m : List ℕ) (k u : ℕ) (r r' : Ran) → (r ≡ later n t r')
      → unless_entered x st m (n + k) (t + u) r ≡ later n t (unless_entered x st m k u r')
  entered_later (event.Executed cost) st m k u r r' e = e
  entered_later (event.Entered number pc flag) st m k u r r' e = refl
  entered_later event.Halted st m k u r r' e = e
  entered_later event.Lost st m k u r r' e = e

  run_from_lem : (left : ℕ) (st : State) (m : List ℕ) (k u : ℕ) → run_from left st m (n + k) (t + u) ≡ later n t (run_from left st m k u)
  unfolding run_from
  run_from_lem zero st m k u = stopped_later st.condition st m k u _ _ refl
  run_from_lem (suc left) st m k u =
      let o = step_of st m in
      stopped_later st.condition st m k u _ _
      (rw (add_assoc n k 1, add_assoc t u (states_of o.event))
      (entered_later o.event o.state o.memory (k + 1) (u + states_of o.event) _ _
      (run_from_lem left o.state o.memory (k + 1) (u + states_of o.event))))

  through_from_lem :
      (left : ℕ) (st : State) (m : List ℕ) (k u : ℕ) → through_from left st m (n + k) (t + u) ≡ later n t (through_from left st m k u)
  unfolding through_from
  through_from_lem zero st m k u = stopped_later st.condition st m k u _ _ refl
  through_from_lem (suc left) st m k u =
      let o = step_of st m in
      stopped_later st.condition st m k u _ _
      (rw (add_assoc n k 1, add_assoc t u (states_of o.event))
      (through_from_lem left o.state o.memory (k + 1) (u + states_of o.event)))

-- a run that goes on from n steps in t states
pub run_later : (left : ℕ) (st : State) (m : List ℕ) (n t : ℕ) → run_from left st m n t ≡ later n t (run_of left st m)
unfolding run_of
run_later left st m n t = simp add-zero at (run_from_lem n t left st m 0 0)

pub through_later : (left : ℕ) (st : State) (m : List ℕ) (n t : ℕ) → through_from left st m n t ≡ later n t (through_of left st m)
unfolding through_of
through_later left st m n t = simp add-zero at (through_from_lem n t left st m 0 0)

-- ---- by the run to the next entry

-- from a run's end on, with `left` steps, where that end is an entry
unfoldable pub on_from : Ending → ℕ → Ran → Ran
on_from (ending.Entered number pc flag) left r = through_from left r.state r.memory r.steps r.states
on_from ending.Spent left r = r
on_from ending.Halted left r = r
on_from ending.Lost left r = r

-- the law below, of what a test of the condition or of the event chooses
abbrev OnBy : ℕ → Ran → Ran → Type 0
OnBy all x r = x ≡ on_from r.ending (all - r.steps) r

stopped_on :
    (c : Condition) (st : State) (m : List ℕ) (n t all : ℕ) (x r : Ran) → OnBy all x r
    → OnBy all (unless_stopped c st m n t x) (unless_stopped c st m n t r)
unfolding on_from
stopped_on condition.Running st m n t all x r e = e
stopped_on condition.Halted st m n t all x r e = refl
stopped_on condition.Lost st m n t all x r e = refl

entered_on :
    (x : Event) (left : ℕ) (st : State) (m : List ℕ) (n t : ℕ) (r : Ran) → OnBy (n + left) (through_from left st m n t) r
    → OnBy (n + left) (through_from left st m n t) (unless_entered x st m n t r)
unfolding on_from
entered_on (event.Executed cost) left st m n t r e = e
entered_on (event.Entered number pc flag) left st m n t r e = let d : left ≡ n + left - n = omega arith in rw (← d)
entered_on event.Halted left st m n t r e = e
entered_on event.Lost left st m n t r e = e

-- A run through kernel entries is a run where that ends by no entry; where it does, it goes on from there with the steps that are left.
pub through_run :
    (left : ℕ) (st : State) (m : List ℕ) (n t : ℕ) → let r : Ran = run_from left st m n t in
    through_from left st m n t ≡ on_from r.ending (n + left - r.steps) r
unfolding run_from through_from on_from
through_run zero st m n t = stopped_on st.condition st m n t (n + zero) _ _ refl
through_run (suc left) st m n t =
    let o : Outcome = step_of st m in
    let t' : ℕ = t + states_of o.event in
    let d : n + suc left ≡ n + 1 + left = omega arith in
    stopped_on st.condition st m n t (n + suc left) _ _
    (rw d
    (entered_on o.event left o.state o.memory (n + 1) t' _ (through_run left o.state o.memory (n + 1) t')))
