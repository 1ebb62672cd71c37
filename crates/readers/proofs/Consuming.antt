-- What a look gives, beside what IN gives: at a port, and in a step that carries out IN of A4h.
-- Assumes nothing.
use Rattle.std.specs.Prelude.{List, ◌≡◌, refl, ℕ}
use Rattle.std.proofs.Math.Path.{ap}
use Rattle.std.proofs.Common.{◌∙◌, arith}
use Rattle.decode.specs.Code.{IN}
use Rattle.fault.specs.Fault.{consumed}
use Rattle.fault.specs.declared.FaultRecord.{FaultRecord}
use Rattle.machine.specs.Execute.{after_operation, body_of}
use Rattle.machine.specs.Kept.{plan_keeps}
use Rattle.machine.specs.Plan.{plan_of}
use Rattle.machine.specs.Ports.{cause_port, port_elsewhere, record_after_in}
use Rattle.machine.specs.Register.{with_reg}
use Rattle.machine.specs.State.{with_fault, with_pc}
use Rattle.machine.specs.Step.{commit, step_of}
use Rattle.machine.specs.declared.State.{State}
use Rattle.plan.specs.declared.Operation.{Operation}
use Rattle.plan.specs.declared.Plan.TheVariants.{Perform}
use Rattle.timer.specs.Port.{after_in_at, value_at}
use Rattle.readers.specs.Statement.{Consumes, InConsumes, LookIsIn}

pub look_is_in : LookIsIn
unfolding port_elsewhere value_at record_after_in after_in_at
look_is_in st c m = (
  record {
    cause = omega arith;
    cause_upper = omega arith;
    missed = omega arith;
    missed_upper = omega arith;
    violation = refl;
  },
  record { cause = refl; violation = refl; missed = refl },
)

-- a plan notes no fault
pub fault_kept : (st : State) (m : List ℕ) → (plan_of st m).state.fault ≡ st.fault
fault_kept st m = plan_keeps (λ (s : State). s.fault ≡ st.fault) (λ s k right h. h) st m refl

-- IN of A4h, but for PC
body_in :
    (st : State) (op : Operation) → op.code ≡ IN → op.port ≡ cause_port
    → body_of st op ≡ with_reg (with_fault st (consumed st.fault).left) op.rd st.fault.cause
unfolding body_of port_elsewhere value_at record_after_in after_in_at
body_in st op c port = rw (c, port)

module _
    (st : State) (m : List ℕ) (op : Operation) (p : (plan_of st m).plan ≡ Perform op) (c : op.code ≡ IN) (port : op.port ≡ cause_port) where
  abbrev next : State
  next = with_pc (plan_of st m).state op.pc

  after : (step_of st m).state ≡ with_reg (with_fault next (consumed st.fault).left) op.rd st.fault.cause
  unfolding step_of commit after_operation
  after =
      rw p
      (body_in next op c port
      ∙ ap (λ (f : FaultRecord). with_reg (with_fault next (consumed f).left) op.rd f.cause) (fault_kept st m))

  consumes : Consumes st m op
  consumes =
      let field : (A : Type 0) (f : FaultRecord → A) → f (step_of st m).state.fault ≡ f (consumed st.fault).left =
      λ A f. ap (λ (s : State). f s.fault) after
      in
      record {
        state = after;
        gone = record { cause = field _ (λ r. r.cause); violation = field _ (λ r. r.violation); missed = field _ (λ r. r.missed) };
      }

pub in_consumes : InConsumes
in_consumes = consumes
