use mathlib.Core.Path.{◌≡◌}
use Rattle.tally.proofs.Counting.{Counting}
use Rattle.tally.proofs.count_commands.Given as goal

abbrev pub invariant-loop-command : goal.invariant-loop-command
invariant-loop-command l = record { card : l.command-iterator.card.now ≡ l.card; counting : Counting l.card l.command-iterator.at l.runs }
