-- A run of no step.
-- Assumes nothing.
use Rattle.std.specs.Prelude.{List, refl, ◌≡◌, ℕ}
use Rattle.machine.specs.Run.{ran, run_from, run_of, stopped_ending, unless_stopped}
use Rattle.machine.specs.declared.Condition.TheVariants as condition
use Rattle.machine.specs.declared.Condition.{Condition}
use Rattle.machine.specs.declared.Ending.TheVariants as ending
use Rattle.machine.specs.declared.State.{State}

stopped : (x : Condition) (st : State) (m : List ℕ) → unless_stopped x st m 0 0 (ran st m 0 0 ending.Spent) ≡ ran st m 0 0 (stopped_ending x)
stopped condition.Running st m = refl
stopped condition.Halted st m = refl
stopped condition.Lost st m = refl

-- a run of no step
pub no_step : (st : State) (m : List ℕ) → run_of 0 st m ≡ ran st m 0 0 (stopped_ending st.condition)
unfolding run_of run_from
no_step st m = stopped st.condition st m
