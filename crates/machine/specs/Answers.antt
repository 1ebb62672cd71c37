-- The numbers and values that document 01 gives to the cases of each answer.
-- Assumes nothing.
use Rattle.std.specs.Prelude.{ℕ}
use Rattle.machine.specs.declared.Condition.{Condition}
use Rattle.machine.specs.declared.Condition.TheVariants as condition
use Rattle.machine.specs.declared.Ending.{Ending}
use Rattle.machine.specs.declared.Ending.TheVariants as ending
use Rattle.machine.specs.declared.Event.{Event}
use Rattle.machine.specs.declared.Event.TheVariants as event

-- "condition (0 running, 1 halted, 2 lost)"
abbrev pub condition_number : Condition → ℕ
condition_number condition.Running = 0
condition_number condition.Halted = 1
condition_number condition.Lost = 2

-- the states of a step: the instruction's own; "entry costs 12 states in place of the instruction's (H)"; "HALT 5"; "one step, 0 states"
abbrev pub states_of : Event → ℕ
states_of (event.Executed n) = n
states_of (event.Entered number pc flag) = 12
states_of event.Halted = 5
states_of event.Lost = 0

-- "ending (0 spent, 1 entered, 2 halted, 3 lost)"
abbrev pub ending_number : Ending → ℕ
ending_number ending.Spent = 0
ending_number (ending.Entered number pc flag) = 1
ending_number ending.Halted = 2
ending_number ending.Lost = 3

-- "number entered or FFh"
abbrev pub ending_entered : Ending → ℕ
ending_entered ending.Spent = 0xff
ending_entered (ending.Entered number pc flag) = number
ending_entered ending.Halted = 0xff
ending_entered ending.Lost = 0xff
