-- A look at a stopped machine: the fault record, with what the last step stored in it. Document 01, "Faults in order": "Fault 11 stores its address
-- and adds its cause bit; 10 stores the page." "If SSP is odd the machine is lost instead: ... the condition changes, with what the faulting
-- instruction's own accesses did to violation address, cause, missed page".
-- Assumes nothing.
use Rattle.std.specs.Prelude.{Bool, cond, false, true, List, ◌≡◌, ℕ, suc, zero, ◌%◌, ◌<◌, eqb}
use Rattle.decode.specs.Code.{HALT, IN}
use Rattle.fault.specs.Fault.{record_after}
use Rattle.fault.specs.declared.FaultRecord.{FaultRecord}
use Rattle.machine.specs.Look.{look_of}
use Rattle.machine.specs.Plan.{plan_of}
use Rattle.machine.specs.Ports.{record_after_in}
use Rattle.machine.specs.Run.{Ran, iterate, run_of}
use Rattle.machine.specs.Step.{step_of}
use Rattle.machine.specs.declared.Ending.{Ending}
use Rattle.machine.specs.declared.Ending.TheVariants as ending
use Rattle.machine.specs.declared.Event.TheVariants as event
use Rattle.machine.specs.declared.State.{State}
use Rattle.mmu.specs.Access.{violation}
use Rattle.mmu.specs.Answers.{fault_number}
use Rattle.mmu.specs.declared.Fault.TheVariants.{Missing}
use Rattle.plan.specs.Trap.{trap_number}
use Rattle.plan.specs.declared.Plan.{Plan}
use Rattle.plan.specs.declared.Plan.TheVariants.{Interrupt, Perform, Trap, Violation}
use Rattle.roundtrip.specs.Statement.{GoodState}
use Rattle.word.specs.Word.{upper}
use Rattle.readers.specs.Statement.{Last}

-- ---- a step

-- The record after a step, by its plan: an access that failed stores, IN of A4h clears the cause, and nothing else changes it, neither an interrupt
-- nor 12 to 15.
abbrev pub record_by : Plan → FaultRecord → FaultRecord
record_by (Interrupt line) r = r
record_by (Violation v) r = record_after v.fault v.address r
record_by (Trap why saved) r = r
record_by (Perform op) r = cond (eqb op.code IN) (record_after_in r op.port) r

-- `step_stores`: so of every step, whether it carries out an instruction, enters the kernel or loses the machine
abbrev pub StepStores : Type 0
StepStores =
    (st : State) (m : List ℕ) → (look_of (step_of st m).state).given ≡ record_by (plan_of st m).plan (look_of st).given

-- ---- the last step of a run, by its ending

-- the plan is to enter the kernel with this number
abbrev pub EntersWith : ℕ → Plan → Type 0
EntersWith number (Interrupt line) = line ≡ number
EntersWith number (Violation v) = fault_number v.fault ≡ number
EntersWith number (Trap why saved) = trap_number why ≡ number
EntersWith number (Perform op) = ⊥

-- the plan is to carry out an instruction, which is HALT or is not
abbrev pub Performs : Bool → Plan → Type 0
Performs halt (Interrupt line) = ⊥
Performs halt (Violation v) = ⊥
Performs halt (Trap why saved) = ⊥
Performs halt (Perform op) = eqb op.code HALT ≡ halt

-- "If SSP is odd the machine is lost instead": an entry was due
pub record Loses (ssp : ℕ) (x : Plan) : Type 0 where
  pub odd : ssp % 2 ≡ 1
  pub number : ℕ
  pub due : EntersWith number x

-- what the last step was to do, with this SSP
abbrev pub LastPlan : Ending → ℕ → Plan → Type 0
LastPlan ending.Spent ssp x = Performs false x
LastPlan (ending.Entered number pc flag) ssp x = EntersWith number x
LastPlan ending.Halted ssp x = Performs true x
LastPlan ending.Lost ssp x = Loses ssp x

-- A last step, from st and m, and the record r after it. So of a lost machine too: what the access that failed stored in the record of before, or
-- that record, where no access failed.
pub record Stores (end : Ending) (st : State) (m : List ℕ) (r : FaultRecord) : Type 0 where
  pub plan : LastPlan end st.ssp (plan_of st m).plan
  pub stored : r ≡ record_by (plan_of st m).plan (look_of st).given

-- the record r after a run of so many steps: after none, as where the machine was found halted or lost, it is that of the start
abbrev pub Stopped : ℕ → Ending → State → List ℕ → FaultRecord → Type 0
Stopped zero end st m r = r ≡ (look_of st).given
Stopped (suc last) end st m r = Stores end (iterate last st m).state (iterate last st m).memory r

-- `run_stopped`: a look after a run, whatever its ending
abbrev pub RunStopped : Type 0
RunStopped =
    (n : ℕ) (st : State) (m : List ℕ) → let r : Ran = run_of n st m in Stopped r.steps r.ending st m (look_of r.state).given

-- ---- an entry with 10

-- The record r shows the access that found no entry in a step: "10 stores the page", and nothing else.
pub record Misses (st : State) (m : List ℕ) (r : FaultRecord) : Type 0 where
  pub address : ℕ
  pub failed : (plan_of st m).plan ≡ Violation (violation Missing address)
  pub missed : r.missed ≡ upper address
  pub violation : r.violation ≡ st.fault.violation
  pub cause : r.cause ≡ st.fault.cause

-- `step_misses`: a step that entered the kernel with 10
abbrev pub StepMisses : Type 0
StepMisses =
    (st : State) (m : List ℕ) (saved flag : ℕ) → GoodState st → (step_of st m).event ≡ event.Entered 10 saved flag
    → Misses st m (look_of (step_of st m).state).given

-- `run_misses`: a run that ended by an entry with 10
abbrev pub RunMisses : Type 0
RunMisses =
    (n : ℕ) (st : State) (m : List ℕ) (saved flag : ℕ) → GoodState st → (run_of n st m).ending ≡ ending.Entered 10 saved flag
    → Last Misses st m (run_of n st m).steps (look_of (run_of n st m).state).given

-- ---- the number of an entry

-- `run_number`: it is never FFh, which tells in a report that nothing was entered
abbrev pub RunNumber : Type 0
RunNumber =
    (n : ℕ) (st : State) (m : List ℕ) (number saved flag : ℕ) → GoodState st → (run_of n st m).ending ≡ ending.Entered number saved flag
    → number < 255
