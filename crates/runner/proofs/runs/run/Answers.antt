-- `runner::runs::run` meets its contract.
use mathlib.Core.Path.{◌∙◌, ◌≡◌}
use Prim.Native.Nat.{◌+◌, ◌-◌, ◌≤◌}
use native.Mathlib.Omega.{arith}
use borrow.Author.Rules.{rules}
use Rattle.machine.proofs.Turn.{at_entry, at_stop, ended, ended_at, goes_through, start}
use Rattle.machine.specs.declared.Condition.TheVariants.{Running}
use Rattle.runner.proofs.Onward.{goes_unentered, led}
use Rattle.runner.proofs.runs.run.Goals as goal
use Rattle.runner.proofs.runs.run.Goals.{else-through, then-through}

pub loop-maps-init : goal.loop-maps-init
loop-maps-init c =
    let fresh : c.if-through.spare ≤ c.args.allowance - 0 =
    elim c.if-through.branch [ then-through w ↦ omega (arith, w.spare-is) | else-through w ↦ omega (arith, w.spare-is) ] in
    (start _ _ _ _, fresh)

pub returns-then-ne : goal.returns-then-ne
returns-then-ne c =
    let at = led c.loop-maps.invariant c.ahead-part.ensures.goes c.ahead-part.ensures.steps c.ahead-part.result.bound in
    let over : c.ahead-part.result.at.condition ≡ Running → c.loop-maps.steps + c.ahead-part.result.steps ≡ c.args.allowance = search rules in
    let e = ended_at (at_stop at over) c.into.ensures c.finish.ensures in
    record { answer = e.0; memory = e.1 }

pub returns-in-Entered : goal.returns-in-Entered
returns-in-Entered c =
    let at = led c.loop-maps.invariant c.ahead-part.ensures.goes c.ahead-part.ensures.steps c.ahead-part.result.bound in
    let running : c.ahead-part.result.at.condition ≡ Running = search rules in
    let entry = at_entry at running c.if-steps-allowance.false (c.step-event.ensures.answer, c.step-event.ensures.memory) (c.from-states.ensures ∙ c.states_of.ensures) (rw c.if-not-through.true) c.in-Entered.is in
    let e = ended entry c.finish-in-Entered.ensures in
    record { answer = e.0; memory = e.1 }

pub loop-maps-preserved-in_default : goal.loop-maps-preserved-in_default
loop-maps-preserved-in_default c =
    let at = led c.loop-maps.invariant c.ahead-part.ensures.goes c.ahead-part.ensures.steps c.ahead-part.result.bound in
    let running : c.ahead-part.result.at.condition ≡ Running = search rules in (
      goes_unentered at running c.if-steps-allowance.false (c.step-event.ensures.answer, c.step-event.ensures.memory) (c.from-states.ensures ∙ c.states_of.ensures)
          c.in_default.not-Entered (omega arith),
      omega arith,
    )

pub loop-maps-preserved : goal.loop-maps-preserved
loop-maps-preserved c =
    let at = led c.loop-maps.invariant c.ahead-part.ensures.goes c.ahead-part.ensures.steps c.ahead-part.result.bound in
    let running : c.ahead-part.result.at.condition ≡ Running = search rules in (
      goes_through at running c.if-steps-allowance.false (c.step-event.ensures.answer, c.step-event.ensures.memory) (c.from-states.ensures ∙ c.states_of.ensures)
          (rw c.if-not-through.false) (omega arith),
      omega arith,
    )
