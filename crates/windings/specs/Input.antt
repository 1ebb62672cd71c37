-- The input byte through a simulation: no step changes it.
-- Assumes nothing.
use Rattle.std.specs.Prelude.{false, List, ◌≡◌}
use Rattle.std.proofs.Math.Path.{ap, refl}
use Rattle.std.proofs.Common.{◌∙◌}
use Prim.Native.Nat.{suc, zero, ℕ, ◌%◌, ◌/◌}
use mir.Val.{bool_byte}
use Rattle.barrel.specs.Barrel.{reached}
use Rattle.barrel.specs.Laws.{input_bit, input_rest}
use Rattle.machine.specs.Enter.{Outcome, enter_of}
use Rattle.machine.specs.Execute.{after_operation, body_of}
use Rattle.machine.specs.Fault.{noted}
use Rattle.machine.specs.Kept.{plan_keeps}
use Rattle.machine.specs.Plan.{plan_of}
use Rattle.machine.specs.Run.{through_of}
use Rattle.machine.specs.State.{with_pc}
use Rattle.machine.specs.Step.{commit, step_of}
use Rattle.machine.specs.StepLaws.{body_by, enter_by, through_keeps}
use Rattle.machine.specs.declared.Planned.{Planned}
use Rattle.machine.specs.declared.State.{State}
use Rattle.plan.specs.declared.Operation.{Operation}
use Rattle.plan.specs.declared.Plan.{Plan}
use Rattle.plan.specs.declared.Plan.TheVariants.{Interrupt, Perform, Trap, Violation}
use Rattle.winder.specs.Simulation.{Winder, after_tick, start_of, tick_of, ticks_of}
use Rattle.winder.specs.declared.Stage.{Stage}
use Rattle.windings.specs.Statement.{InputFirst, InputRules, InputStill}

-- ---- steps

abbrev input_of : State → ℕ
input_of st = st.ports.input

body_input : (st : State) (op : Operation) → input_of (body_of st op) ≡ input_of st
body_input st op = body_by (λ (s : State). input_of s ≡ input_of st) st op (search)

enter_input : (st : State) (pending number saved : ℕ) (m : List ℕ) → input_of (enter_of st pending number saved m).state ≡ input_of st
enter_input st pending number saved m = enter_by (λ (o : Outcome). input_of o.state ≡ input_of st) st pending number saved m refl refl

commit_input : (x : Plan) (st : State) (m : List ℕ) → input_of (commit x st m).state ≡ input_of st
unfolding commit after_operation
commit_input (Interrupt line) st m = enter_input st _ _ _ m
commit_input (Violation v) st m = enter_input (noted v.fault v.address st) _ _ _ m
commit_input (Trap why saved) st m = enter_input st _ _ _ m
commit_input (Perform op) st m = body_input (with_pc st op.pc) op

pub input_still : InputStill
unfolding step_of
input_still st m =
    let p : Planned = plan_of st m in
    commit_input p.plan p.state m
    ∙ plan_keeps (λ (s : State). input_of s ≡ input_of st) (λ s k right h. h) st m refl

through_still : (n : ℕ) (st : State) (m : List ℕ) → input_of (through_of n st m).state ≡ input_of st
through_still n st m = through_keeps (λ (s : State) (l : List ℕ). input_of s ≡ input_of st) (λ s l h. input_still s l ∙ h) n st m refl

-- ---- ticks

module _ (w : Winder) where
  tick_set :
      (at : Stage) (m : List ℕ) → let next : Stage = (tick_of w at m).stage in
      input_of next.state % 2 ≡ bool_byte (reached w.turns w.notches next.standing)
  unfolding tick_of after_tick
  tick_set at m =
      input_bit (reached w.turns w.notches (tick_of w at m).stage.standing) (input_of (through_of w.steps at.state m).state)

  tick_kept : (at : Stage) (m : List ℕ) → input_of (tick_of w at m).stage.state / 2 ≡ input_of at.state / 2
  unfolding tick_of after_tick
  tick_kept at m =
      input_rest (reached w.turns w.notches (tick_of w at m).stage.standing) (input_of (through_of w.steps at.state m).state)
      ∙ ap (λ (x : ℕ). x / 2) (through_still w.steps at.state m)

  ticks_set :
      (n : ℕ) (at : Stage) (m : List ℕ) → let last : Stage = (ticks_of w (suc n) at m).stage in
      input_of last.state % 2 ≡ bool_byte (reached w.turns w.notches last.standing)
  unfolding ticks_of
  ticks_set zero at m = tick_set at m
  ticks_set (suc n) at m = ticks_set n (tick_of w at m).stage (tick_of w at m).memory

  ticks_kept : (n : ℕ) (at : Stage) (m : List ℕ) → input_of (ticks_of w n at m).stage.state / 2 ≡ input_of at.state / 2
  unfolding ticks_of
  ticks_kept zero at m = refl
  ticks_kept (suc n) at m = ticks_kept n (tick_of w at m).stage (tick_of w at m).memory ∙ tick_kept at m

pub input_first : InputFirst
unfolding start_of
input_first st = input_bit false (input_of st)

pub input_rule : InputRules
unfolding start_of
input_rule w st m n =
    record {
      set = ticks_set w n (start_of st) m;
      kept = ticks_kept w n (start_of st) m ∙ input_rest false (input_of st);
    }
