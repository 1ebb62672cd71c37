-- `tally::count` meets its contract.
use mathlib.Core.Path.{refl}
use native.Mathlib.Omega.{arith}
use borrow.Author.Tests.{le-leb, lt-leb}
use Rattle.command.specs.Card.{reading_of, runs_in}
use Rattle.tally.proofs.count.Goals as goal

pub returns-then-card-le-CARD : goal.returns-then-card-le-CARD
unfolding reading_of
returns-then-card-le-CARD c = rw (le-leb _ _ c.if-card-le-CARD.true) c.count_commands.ensures

pub returns-else-card-le-CARD : goal.returns-else-card-le-CARD
unfolding reading_of runs_in
returns-else-card-le-CARD c = rw (lt-leb _ _ c.if-card-le-CARD.false, c.refused.ensures) (record { value = refl; bound = omega arith })
