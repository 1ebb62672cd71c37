-- Laws of an instruction, a kernel entry, a step and a run: what is shown of each of their ways holds of them.
-- Assumes nothing.
use Rattle.std.specs.Prelude.{◌&&◌, List, ◌≡◌, eqb, leb}
use Prim.Native.Nat.{ℕ, suc, zero, ◌%◌, ◌+◌}
use Rattle.std.proofs.Common.{eqb-true}
use Rattle.decode.specs.Code.{ADD, CALL, CMP, HALT, IN, LD, LDFLAG, OUT, POP, PUSH, RET, RETI, SHRL}
use Rattle.alu.specs.Alu.{sub_of}
use Rattle.word.specs.Cases.{either}
use Rattle.word.specs.Word.{minus, plus}
use Rattle.machine.specs.Answers.{states_of}
use Rattle.machine.specs.Enter.{Outcome, enter_of, entered, lost}
use Rattle.plan.specs.Result.{alu_of}
use Rattle.machine.specs.Execute.{body_of, with_result}
use Rattle.machine.specs.Flag.{with_flag}
use Rattle.machine.specs.Ports.{after_in, after_out, port_value}
use Rattle.machine.specs.Register.{sp_of, with_reg, with_sp}
use Rattle.machine.specs.Run.{Ran, run_from, run_of, through_from, through_of, unless_entered, unless_stopped}
use Rattle.machine.specs.State.{with_condition, with_pending, with_stack}
use Rattle.machine.specs.Step.{step_of}
use Rattle.machine.specs.declared.Condition.{Condition}
use Rattle.machine.specs.declared.Condition.TheVariants as condition
use Rattle.machine.specs.declared.Event.{Event}
use Rattle.machine.specs.declared.Event.TheVariants as event
use Rattle.plan.specs.declared.Operation.{Operation}
use Rattle.machine.specs.declared.State.{State}

-- ---- an instruction

-- What an instruction does to the state but for PC, way by way. Those that need a privilege may rest on the instruction's number.
pub record BodyWays (Claim : State → Type 0) (st : State) (op : Operation) : Type 0 where
  pub load : Claim (with_reg st op.rd op.source)
  pub compare : Claim (with_result st (sub_of op.held op.source))
  pub compute :
      Claim (with_reg (with_result st (alu_of op.code op.held op.source)) op.rd (alu_of op.code op.held op.source).value)
  pub push : Claim (with_sp st (minus (sp_of st) 2))
  pub pop : Claim (with_reg (with_sp st (plus (sp_of st) 2)) op.rd op.source)
  pub return : Claim (with_sp st (plus (sp_of st) 2))
  pub input : op.code ≡ IN → Claim (with_reg (after_in st op.port) op.rd (port_value st op.port))
  pub output : op.code ≡ OUT → Claim (after_out st op.port op.held)
  pub resume : op.code ≡ RETI → Claim (with_flag (with_stack st (plus st.ssp 4) st.usp) op.source)
  pub halt : op.code ≡ HALT → Claim (with_condition st condition.Halted)
  pub nothing : Claim st

pub body_by : (Claim : State → Type 0) (st : State) (op : Operation) → BodyWays Claim st op → Claim (body_of st op)
unfolding body_of
body_by Claim st op w =
    either Claim (eqb op.code LD) (λ _. w.load) (λ _.
    either Claim (eqb op.code CMP) (λ _. w.compare) (λ _.
    either Claim (eqb op.code LDFLAG) (λ _. w.load) (λ _.
    either Claim (eqb op.code CALL) (λ _. w.push) (λ _.
    either Claim (eqb op.code IN) (λ e. w.input (eqb-true _ _ e)) (λ _.
    either Claim (eqb op.code OUT) (λ e. w.output (eqb-true _ _ e)) (λ _.
    either Claim (eqb op.code PUSH) (λ _. w.push) (λ _.
    either Claim (eqb op.code POP) (λ _. w.pop) (λ _.
    either Claim (eqb op.code RET) (λ _. w.return) (λ _.
    either Claim (eqb op.code RETI) (λ e. w.resume (eqb-true _ _ e)) (λ _.
    either Claim (eqb op.code HALT) (λ e. w.halt (eqb-true _ _ e)) (λ _.
    either Claim (leb ADD op.code && leb op.code SHRL) (λ _. w.compute) (λ _. w.nothing))))))))))))

-- ---- a kernel entry

pub enter_by :
    (Claim : Outcome → Type 0) (st : State) (pending number saved : ℕ) (m : List ℕ) → Claim (lost st m)
    → Claim (entered (with_pending st pending) number saved m) → Claim (enter_of st pending number saved m)
unfolding enter_of
enter_by Claim st pending number saved m l e = either Claim (eqb (st.ssp % 2) 1) (λ _. l) (λ _. e)

-- ---- a run

-- what each step keeps of the state and of the memory, a run keeps, ending at a kernel entry or going on through them
module _
    (P : State → List ℕ → Type 0) (kept : (st : State) (m : List ℕ) → P st m → P (step_of st m).state (step_of st m).memory) where
  abbrev End : Ran → Type 0
  End r = P r.state r.memory

  module _ (st : State) (m : List ℕ) (n t : ℕ) (rest : Ran) (g : P st m) (r : End rest) where
    stopped_keeps : (x : Condition) → End (unless_stopped x st m n t rest)
    stopped_keeps condition.Running = r
    stopped_keeps condition.Halted = g
    stopped_keeps condition.Lost = g

    entered_keeps : (x : Event) → End (unless_entered x st m n t rest)
    entered_keeps (event.Executed cost) = r
    entered_keeps (event.Entered number pc flag) = g
    entered_keeps event.Halted = r
    entered_keeps event.Lost = r

  from_keeps : (left : ℕ) (st : State) (m : List ℕ) (n t : ℕ) → P st m → End (run_from left st m n t)
  unfolding run_from
  from_keeps zero st m n t g = stopped_keeps st m n t _ g g st.condition
  from_keeps (suc left) st m n t g =
      let o : Outcome = step_of st m in
      let t' : ℕ = t + states_of o.event in
      let rest : Ran = run_from left o.state o.memory (n + 1) t' in
      let after : Ran = unless_entered o.event o.state o.memory (n + 1) t' rest in
      let s : P o.state o.memory = kept st m g in
      let r : End rest = from_keeps left o.state o.memory (n + 1) t' s in
      stopped_keeps st m n t after g (entered_keeps o.state o.memory (n + 1) t' rest s r o.event) st.condition

  pub run_keeps : (n : ℕ) (st : State) (m : List ℕ) → P st m → P (run_of n st m).state (run_of n st m).memory
  unfolding run_of
  run_keeps n st m g = from_keeps n st m 0 0 g

  through_from_keeps : (left : ℕ) (st : State) (m : List ℕ) (n t : ℕ) → P st m → End (through_from left st m n t)
  unfolding through_from
  through_from_keeps zero st m n t g = stopped_keeps st m n t _ g g st.condition
  through_from_keeps (suc left) st m n t g =
      let o : Outcome = step_of st m in
      stopped_keeps st m n t _ g
      (through_from_keeps left o.state o.memory (n + 1) (t + states_of o.event) (kept st m g)) st.condition

  pub through_keeps : (n : ℕ) (st : State) (m : List ℕ) → P st m → P (through_of n st m).state (through_of n st m).memory
  unfolding through_of
  through_keeps n st m g = through_from_keeps n st m 0 0 g
