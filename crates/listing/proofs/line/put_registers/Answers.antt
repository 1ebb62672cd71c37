-- `listing::line::put_registers` meets its contract.
use Rattle.text.specs.Writer.{both}
use Rattle.listing.proofs.line.put_registers.Goals as goal

pub returns : goal.returns
returns c =
    both (rw c.word_from.ensures at c.put_hex.ensures)
    (both c.put.ensures (both (rw c.word_from-2.ensures at c.put_hex-2.ensures) c.put-2.ensures))
