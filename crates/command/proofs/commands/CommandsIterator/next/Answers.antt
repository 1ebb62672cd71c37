-- `next` of `command::Commands` meets its contract.
use mathlib.Core.Path.{ap, refl, ◌∙◌}
use native.Mathlib.Omega.{arith}
use Rattle.std.specs.Prelude.{Ok}
use Rattle.command.specs.Turns.{at_bad, at_end, at_next, bad_before, falls}
use Rattle.command.proofs.commands.CommandsIterator.next.Goals as goal

pub invariant_of-self-clause-inside : goal.invariant_of-self-clause-inside
invariant_of-self-clause-inside c =
    let turn = at_next _ _ c.parse.ensures (c.in-Ok-Some.is ∙ ap Ok c.in-Ok-Some.field-0-is) in
    omega (arith, turn.forward, turn.within c.args.self.now.inside)

pub returns-in-Ok-None-clause-steps : goal.returns-in-Ok-None-clause-steps
returns-in-Ok-None-clause-steps c = (refl, at_end _ _ c.parse.ensures (c.in-Ok-None.is ∙ ap Ok c.in-Ok-None.field-0-is))

pub returns-in-Ok-Some-clause-steps : goal.returns-in-Ok-Some-clause-steps
returns-in-Ok-Some-clause-steps c = (refl, at_next _ _ c.parse.ensures (c.in-Ok-Some.is ∙ ap Ok c.in-Ok-Some.field-0-is))

pub returns-in-Ok-Some-clause-goes : goal.returns-in-Ok-Some-clause-goes
returns-in-Ok-Some-clause-goes c =
    let turn = at_next _ _ c.parse.ensures (c.in-Ok-Some.is ∙ ap Ok c.in-Ok-Some.field-0-is) in
    record { on = λ _. (tt, tt, falls turn c.args.self.now.inside); keeps = tt; rests = λ _. tt }

pub returns-in-Err-clause-steps : goal.returns-in-Err-clause-steps
returns-in-Err-clause-steps c = (refl, at_bad _ _ c.parse.ensures c.in-Err.is)

pub returns-in-Err-clause-goes : goal.returns-in-Err-clause-goes
returns-in-Err-clause-goes c =
    let before = bad_before _ _ c.parse.ensures c.in-Err.is in
    record { on = λ _. (tt, tt, omega (arith, before)); keeps = tt; rests = λ _. tt }
