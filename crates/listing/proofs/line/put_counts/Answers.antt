-- `listing::line::put_counts` meets its contract.
use Rattle.text.specs.Writer.{both}
use Rattle.listing.proofs.line.put_counts.Goals as goal

pub returns : goal.returns
returns c =
    both (rw c.word_from.ensures at c.put_decimal.ensures)
    (both c.put.ensures (both (rw (c.word_from-high.ensures, c.word_from-low.ensures) at c.put_decimal-2.ensures) c.put-2.ensures))
