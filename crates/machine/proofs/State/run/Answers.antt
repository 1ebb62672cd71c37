-- `machine::State::run` meets its contract.
use Rattle.std.proofs.Common.{◌≡◌, ◌∙◌, arith, refl, rules}
use Rattle.machine.proofs.Turn.{at_entry, at_stop, ended, ended_at, goes_on, start, unentered}
use Rattle.machine.specs.declared.Condition.TheVariants.{Running}
use Rattle.machine.proofs.State.run.Goals as goal

pub loop-steps-init : goal.loop-steps-init
loop-steps-init c = start _ _ _ _

pub returns-then-ne : goal.returns-then-ne
returns-then-ne c =
    let stopped : c.loop-steps.state.condition ≡ Running → ⊥ = search rules in
    let p = ended_at (at_stop c.loop-steps.invariant (λ e. absurd (stopped e))) c.into.ensures c.finish.ensures in
    record { answer = p.0; memory = p.1 }

pub returns-in-Entered : goal.returns-in-Entered
returns-in-Entered c =
    let running : c.loop-steps.state.condition ≡ Running = search rules in
    let p = ended
    (at_entry c.loop-steps.invariant running (λ e. omega arith)
    (c.step-stepped.ensures.answer, c.step-stepped.ensures.memory) (c.from-states.ensures ∙ c.states_of.ensures) refl c.in-Entered.is)
    c.finish-in-Entered.ensures in
    record { answer = p.0; memory = p.1 }

pub loop-steps-preserved : goal.loop-steps-preserved
loop-steps-preserved c =
    let running : c.loop-steps.state.condition ≡ Running = search rules in
    goes_on c.loop-steps.invariant running (λ e. omega arith)
    (c.step-stepped.ensures.answer, c.step-stepped.ensures.memory) (c.from-states.ensures ∙ c.states_of.ensures)
    (unentered _ _ _ _ _ _ c.in_default.not-Entered) (omega arith)

pub returns : goal.returns
returns c =
    let spent : c.loop-steps.steps ≡ c.args.allowance = omega arith in
    let p = ended_at (at_stop c.loop-steps.invariant (λ e. spent)) c.into-2.ensures (c.finish-2.ensures ∙ rw spent) in
    record { answer = p.0; memory = p.1 }
