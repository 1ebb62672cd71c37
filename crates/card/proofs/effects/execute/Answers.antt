-- `card::effects::execute` meets its contract.
use mathlib.Core.List.{[]}
use mathlib.Core.Path.{ap, ◌≡◌}
use Rattle.card.proofs.Executes.{ended, goes_on, room_next, taken}
use Rattle.card.specs.Inside.{commands_of}
use Rattle.command.specs.Card.{Reading}
use Rattle.card.proofs.effects.execute.Goals as goal
use Rattle.card.proofs.effects.execute.Goals.{in-None, in-Some+in_default}

pub execute-requires : goal.execute-requires
execute-requires c =
    let gave = rw c.in-Ok.is at c.in-Some.ensures.steps in
    room_next c.loop-command.invariant (taken gave.0 gave.1)

pub loop-command-preserved : goal.loop-command-preserved
loop-command-preserved c =
    let gave = rw c.in-Ok.is at c.in-Some.ensures.steps in
    goes_on c.loop-command.invariant (taken gave.0 gave.1) c.execute.ensures

pub returns : goal.returns
returns c =
    let none : commands_of c.loop-command.command-iterator ≡ [] = elim c.match-next.branch [
      | in-None w ↦ ap (λ (r : Reading). r.commands) w.in-None.ensures.steps.1
      | in-Some+in_default w ↦
          let gave = rw w.in_default.is at w.in-Some.ensures.steps in
          ap (λ (r : Reading). r.commands) gave.1
    ] in
    let p = ended c.loop-command.invariant none in
    record { state = p.0; memory = p.1.0; report = p.1.1 }
