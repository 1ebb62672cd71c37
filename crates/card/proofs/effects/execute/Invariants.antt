use Rattle.card.proofs.Executes.{Executing}
use Rattle.card.specs.Inside.{commands_of}
use Rattle.card.proofs.effects.execute.Given as goal

abbrev pub invariant-loop-command : goal.invariant-loop-command
invariant-loop-command l =
    Executing (commands_of l.commands) l.initial.progress.state l.initial.memory l.initial.report (commands_of l.command-iterator)
    l.progress.filled l.progress.state l.memory l.report
