-- What an instruction does to the state, all of its tests passed. Document 01, "Results and flags".
-- Assumes nothing.
use Rattle.std.specs.Prelude.{cond, ◌&&◌, eqb, leb}
use Rattle.decode.specs.Code.{ADD, CALL, CMP, HALT, IN, LD, LDFLAG, OUT, POP, PUSH, RET, RETI, SHRL}
use Rattle.alu.specs.Alu.{sub_of}
use Rattle.plan.specs.Result.{alu_of}
use Rattle.word.specs.Word.{minus, plus}
use Rattle.alu.specs.declared.Alu.{Alu}
use Rattle.machine.specs.Flag.{with_flag}
use Rattle.machine.specs.Ports.{after_in, after_out, port_value}
use Rattle.machine.specs.Register.{sp_of, with_reg, with_sp}
use Rattle.machine.specs.State.{with_arithmetic, with_condition, with_pc, with_stack}
use Rattle.machine.specs.declared.Condition.TheVariants as condition
use Rattle.machine.specs.declared.Event.{Event}
use Rattle.machine.specs.declared.Event.TheVariants as event
use Rattle.plan.specs.declared.Operation.{Operation}
use Rattle.machine.specs.declared.State.{State}

-- V, C, S and Z of a result
abbrev pub with_result : State → Alu → State
with_result st r = with_arithmetic st r.v r.c r.s r.z

-- The state after an instruction but for PC. "LD, ST, jumps, stack and port instructions change no arithmetic flag; RETI loads FLAG. Those
-- listed from ADD to SHRL, and only they, set S and Z". "CMP keeps Rd". "PUSH and CALL lower SP by 2 ...; POP, RET and RETI read and raise it." "POP SP
-- ends with the popped value; so does number 14 if P=0 (H)." RETI's SSP "rises by 4". "HALT sets condition 1".
unfoldable pub body_of : State → Operation → State
body_of st op =
    cond (eqb op.code LD) (with_reg st op.rd op.source)
    (cond (eqb op.code CMP) (with_result st (sub_of op.held op.source))
    (cond (eqb op.code LDFLAG) (with_reg st op.rd op.source)
    (cond (eqb op.code CALL) (with_sp st (minus (sp_of st) 2))
    (cond (eqb op.code IN) (with_reg (after_in st op.port) op.rd (port_value st op.port))
    (cond (eqb op.code OUT) (after_out st op.port op.held)
    (cond (eqb op.code PUSH) (with_sp st (minus (sp_of st) 2))
    (cond (eqb op.code POP) (with_reg (with_sp st (plus (sp_of st) 2)) op.rd op.source)
    (cond (eqb op.code RET) (with_sp st (plus (sp_of st) 2))
    (cond (eqb op.code RETI) (with_flag (with_stack st (plus st.ssp 4) st.usp) op.source)
    (cond (eqb op.code HALT) (with_condition st condition.Halted)
    (cond (leb ADD op.code && leb op.code SHRL)
    (let r : Alu = alu_of op.code op.held op.source in with_reg (with_result st r) op.rd r.value)
    st)))))))))))

unfoldable pub after_operation : State → Operation → State
after_operation st op = body_of (with_pc st op.pc) op

unfoldable pub event_of : Operation → Event
event_of op = cond (eqb op.code HALT) event.Halted (event.Executed op.states)
