-- A run. Document 01, "Faults in order": "A run does at most its allowance of steps, 0 to 65,535, and reports how many it did. Before the
-- first step and after each it ends if one of these holds, the earlier named winning: halted or lost (also found so, with 0 steps),
-- kernel entered by the step just done, allowance spent."
-- Assumes nothing.
use Rattle.std.specs.Prelude.{Bool, false, true, List, suc, zero, ℕ, ◌+◌}
use Rattle.machine.specs.Answers.{states_of}
use Rattle.machine.specs.Enter.{Outcome}
use Rattle.machine.specs.Step.{step_of}
use Rattle.machine.specs.declared.Condition.{Condition}
use Rattle.machine.specs.declared.Condition.TheVariants as condition
use Rattle.machine.specs.declared.Ending.{Ending}
use Rattle.machine.specs.declared.Ending.TheVariants as ending
use Rattle.machine.specs.declared.Event.{Event}
use Rattle.machine.specs.declared.Event.TheVariants as event
use Rattle.machine.specs.declared.Finished.{Finished}
use Rattle.machine.specs.declared.State.{State}

-- the end of a run: the last state and memory, the steps done and their states, and why it ended
pub record Ran : Type 0 where
  pub state : State
  pub memory : List ℕ
  pub steps : ℕ
  pub states : ℕ
  pub ending : Ending

abbrev pub ran : State → List ℕ → ℕ → ℕ → Ending → Ran
ran st m n t x = record { state = st; memory = m; steps = n; states = t; ending = x }

-- "halted or lost (also found so, with 0 steps)": the run ends there, else it goes on
abbrev pub unless_stopped : Condition → State → List ℕ → ℕ → ℕ → Ran → Ran
unless_stopped condition.Running st m n t rest = rest
unless_stopped condition.Halted st m n t rest = ran st m n t ending.Halted
unless_stopped condition.Lost st m n t rest = ran st m n t ending.Lost

-- "kernel entered by the step just done": the run ends there, else it goes on
abbrev pub unless_entered : Event → State → List ℕ → ℕ → ℕ → Ran → Ran
unless_entered (event.Executed cost) st m n t rest = rest
unless_entered (event.Entered number pc flag) st m n t rest = ran st m n t (ending.Entered number pc flag)
unless_entered event.Halted st m n t rest = rest
unless_entered event.Lost st m n t rest = rest

-- at most `left` steps more, `n` steps having been done in `t` states
unfoldable pub run_from : ℕ → State → List ℕ → ℕ → ℕ → Ran
run_from zero st m n t = unless_stopped st.condition st m n t (ran st m n t ending.Spent)
run_from (suc left) st m n t =
    let o : Outcome = step_of st m in
    let rest : Ran = run_from left o.state o.memory (n + 1) (t + states_of o.event) in
    let after : Ran = unless_entered o.event o.state o.memory (n + 1) (t + states_of o.event) rest in
    unless_stopped st.condition st m n t after

-- how a run of no step ends
abbrev pub stopped_ending : Condition → Ending
stopped_ending condition.Running = ending.Spent
stopped_ending condition.Halted = ending.Halted
stopped_ending condition.Lost = ending.Lost

-- a run of an allowance of steps
unfoldable pub run_of : ℕ → State → List ℕ → Ran
run_of allowance st m = run_from allowance st m 0 0

-- ---- steps one after the other, without a run

-- a state and the memory beside it
pub record Place : Type 0 where
  pub state : State
  pub memory : List ℕ

-- the place after so many steps
unfoldable pub iterate : ℕ → State → List ℕ → Place
iterate zero st m = record { state = st; memory = m }
iterate (suc k) st m = let o : Outcome = step_of st m in iterate k o.state o.memory

-- ---- runs that go on through kernel entries

-- at most `left` steps more, to a halt or a loss, `n` steps having been done in `t` states
unfoldable pub through_from : ℕ → State → List ℕ → ℕ → ℕ → Ran
through_from zero st m n t = unless_stopped st.condition st m n t (ran st m n t ending.Spent)
through_from (suc left) st m n t =
    let o : Outcome = step_of st m in
    unless_stopped st.condition st m n t (through_from left o.state o.memory (n + 1) (t + states_of o.event))

unfoldable pub through_of : ℕ → State → List ℕ → Ran
through_of allowance st m = through_from allowance st m 0 0

-- one that goes on through kernel entries, or one that ends there
abbrev pub go_from : Bool → ℕ → State → List ℕ → ℕ → ℕ → Ran
go_from true = through_from
go_from false = run_from

abbrev pub go_of : Bool → ℕ → State → List ℕ → Ran
go_of true = through_of
go_of false = run_of

-- the end of a run, without the memory
abbrev pub finished : Ran → Finished
finished r = record { state = r.state; steps = r.steps; states = r.states; ending = r.ending }
