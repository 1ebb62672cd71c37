-- A step. Document 01, "Faults in order".
-- Assumes nothing.
use Rattle.std.specs.Prelude.{List, ℕ}
use Rattle.mmu.specs.Answers.{fault_number}
use Rattle.memory.specs.Memory.{stored}
use Rattle.status.specs.Pending.{without}
use Rattle.machine.specs.Enter.{Outcome, enter_of}
use Rattle.machine.specs.Execute.{after_operation, event_of}
use Rattle.machine.specs.Fault.{noted}
use Rattle.machine.specs.Plan.{plan_of}
use Rattle.plan.specs.Trap.{trap_number}
use Rattle.plan.specs.declared.Plan.{Plan}
use Rattle.plan.specs.declared.Plan.TheVariants.{Interrupt, Perform, Trap, Violation}
use Rattle.machine.specs.declared.Planned.{Planned}
use Rattle.machine.specs.declared.State.{State}
use Rattle.machine.specs.declared.Stepped.{Stepped}

-- The step that carries out a plan, in the state after the plan's accesses. "The saved PC is the instruction's own for 10-14, the following
-- one for SVC, and for an interrupt that of the instruction not yet begun". "An interrupt's line stays pending (H)", where the machine is
-- lost.
unfoldable pub commit : Plan → State → List ℕ → Outcome
commit (Interrupt line) st m = enter_of st (without st.pending line) line st.pc m
commit (Violation v) st m = enter_of (noted v.fault v.address st) st.pending (fault_number v.fault) st.pc m
commit (Trap trap saved) st m = enter_of st st.pending (trap_number trap) saved m
commit (Perform op) st m = record { state = after_operation st op; memory = stored op.store m; event = event_of op }

-- one step of a running machine
unfoldable pub step_of : State → List ℕ → Outcome
step_of st m = let p : Planned = plan_of st m in commit p.plan p.state m

-- the next state and what the step did, without the memory
abbrev pub answer : Outcome → Stepped
answer o = record { state = o.state; event = o.event }
