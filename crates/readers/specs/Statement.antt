-- The two readers of the fault record. Document 02, 1/14: "So the same record has a reader that consumes and a reader that doesn't; a look
-- between two steps changes nothing a later step gives."
-- Assumes nothing.
use Rattle.std.specs.Prelude.{List, ◌≡◌, ℕ, suc, ◌+◌}
use Rattle.std.specs.Int.Bits.{bit_and, bit_or}
use Rattle.decode.specs.Code.{IN}
use Rattle.fault.specs.Fault.{consumed}
use Rattle.fault.specs.declared.FaultRecord.{FaultRecord}
use Rattle.machine.specs.Look.{look_of}
use Rattle.machine.specs.Plan.{plan_of}
use Rattle.machine.specs.Ports.{after_in, cause_port, missed_port, mmu_port, port_value}
use Rattle.machine.specs.Register.{with_reg}
use Rattle.machine.specs.Run.{Ran, iterate, run_of}
use Rattle.machine.specs.State.{with_fault, with_pc}
use Rattle.machine.specs.Step.{step_of}
use Rattle.machine.specs.Through.{later}
use Rattle.machine.specs.declared.Ending.TheVariants as ending
use Rattle.machine.specs.declared.Event.TheVariants as event
use Rattle.machine.specs.declared.State.{State}
use Rattle.mmu.specs.Access.{violation}
use Rattle.mmu.specs.Answers.{cause_bit, fault_number}
use Rattle.mmu.specs.declared.Fault.{Fault}
use Rattle.plan.specs.declared.Operation.{Operation}
use Rattle.plan.specs.declared.Plan.TheVariants.{Perform, Violation}
use Rattle.roundtrip.specs.Statement.{Byte, GoodState}
use Rattle.word.specs.Word.{lower, upper}

-- ---- a look between two runs

-- a run of n, and from where it ended a run of k
abbrev pub runs_apart : ℕ → ℕ → State → List ℕ → Ran
runs_apart n k st m = let r : Ran = run_of n st m in run_of k r.state r.memory

-- the same with a look between them: the second run starts in the state that the look left
abbrev pub looked_between : ℕ → ℕ → State → List ℕ → Ran
looked_between n k st m = let r : Ran = run_of n st m in run_of k (look_of r.state).state r.memory

-- `look_between`: the look changes nothing that the second run gives
abbrev pub LookBetween : Type 0
LookBetween = (n k : ℕ) (st : State) (m : List ℕ) → looked_between n k st m ≡ runs_apart n k st m

-- `look_within`: where the first run ends because its allowance is spent, the two and the look between them are one run of all the steps, whose
-- counts are the sums
abbrev pub LookWithin : Type 0
LookWithin =
    (n k : ℕ) (st : State) (m : List ℕ) → (run_of n st m).ending ≡ ending.Spent
    → run_of (n + k) st m ≡ later n (run_of n st m).states (looked_between n k st m)

-- ---- what the look gives, beside the ports

-- the record as IN would read it now, the cause and the missed page in the lower half of a word
pub record AsPorts (st : State) (r : FaultRecord) : Type 0 where
  pub cause : lower (port_value st cause_port) ≡ r.cause
  pub cause_upper : upper (port_value st cause_port) ≡ 0
  pub missed : lower (port_value st missed_port) ≡ r.missed
  pub missed_upper : upper (port_value st missed_port) ≡ 0
  pub violation : port_value st mmu_port ≡ r.violation

-- the record without its cause
pub record CauseGone (r r' : FaultRecord) : Type 0 where
  pub cause : r'.cause ≡ 0
  pub violation : r'.violation ≡ r.violation
  pub missed : r'.missed ≡ r.missed

-- `look_is_in`: what the look gives is what IN would give, and after IN of A4h the look gives cause 0
abbrev pub LookIsIn : Type 0
LookIsIn =
    (st : State) → Byte st.fault.cause → Byte st.fault.missed
    → AsPorts st (look_of st).given × CauseGone (look_of st).given (look_of (after_in st cause_port)).given

-- `in_consumes`: so too of a step that carries out IN of A4h. Rd gets the cause that a look before it gives, and a look after it gives cause 0;
-- but for that, PC and the marks of its fetches the state is as it was.
pub record Consumes (st : State) (m : List ℕ) (op : Operation) : Type 0 where
  pub state :
      (step_of st m).state
      ≡ with_reg (with_fault (with_pc (plan_of st m).state op.pc) (consumed st.fault).left) op.rd (look_of st).given.cause
  pub gone : CauseGone (look_of st).given (look_of (step_of st m).state).given

abbrev pub InConsumes : Type 0
InConsumes =
    (st : State) (m : List ℕ) (op : Operation) → (plan_of st m).plan ≡ Perform op → op.code ≡ IN → op.port ≡ cause_port → Consumes st m op

-- ---- a look after a kernel entry for fault 11

-- The record r shows the access that failed in a step: "Fault 11 stores its address and adds its cause bit".
pub record Shows (st : State) (m : List ℕ) (r : FaultRecord) : Type 0 where
  pub why : Fault
  pub address : ℕ
  -- in this step an access to this address was not granted, with fault 11
  pub failed : (plan_of st m).plan ≡ Violation (violation why address)
  pub number : fault_number why ≡ 11
  -- the address, the cause bit among those that were there, and the missed page of before
  pub violation : r.violation ≡ address
  pub bit : bit_and r.cause (cause_bit why) ≡ cause_bit why
  pub cause : r.cause ≡ bit_or st.fault.cause (cause_bit why)
  pub missed : r.missed ≡ st.fault.missed

-- `step_shows`: a step that entered the kernel with 11
abbrev pub StepShows : Type 0
StepShows =
    (st : State) (m : List ℕ) (saved flag : ℕ) → GoodState st → (step_of st m).event ≡ event.Entered 11 saved flag
    → Shows st m (look_of (step_of st m).state).given

-- what the record r shows of the last step of a run
pub record Last (Claim : State → List ℕ → FaultRecord → Type 0) (st : State) (m : List ℕ) (steps : ℕ) (r : FaultRecord) : Type 0 where
  pub last : ℕ
  pub counted : steps ≡ suc last
  pub shows : Claim (iterate last st m).state (iterate last st m).memory r

abbrev pub LastShows : State → List ℕ → ℕ → FaultRecord → Type 0
LastShows = Last Shows

-- `run_shows`: a run that ended by an entry with 11
abbrev pub RunShows : Type 0
RunShows =
    (n : ℕ) (st : State) (m : List ℕ) (saved flag : ℕ) → GoodState st → (run_of n st m).ending ≡ ending.Entered 11 saved flag
    → LastShows st m (run_of n st m).steps (look_of (run_of n st m).state).given
