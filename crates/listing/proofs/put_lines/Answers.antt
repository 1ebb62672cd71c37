-- `listing::put_lines` meets its contract.
use Rattle.std.proofs.Common.{take_all}
use Rattle.listing.proofs.Whole.{lines_more, lines_of_chunks}
use Rattle.text.specs.Writer.{both}
use Rattle.listing.proofs.put_lines.Goals as goal

pub loop-run-preserved : goal.loop-run-preserved
loop-run-preserved c = rw (← lines_more _ _ _ c.loop-run-test.true) at (both c.loop-run.invariant c.put_line.ensures)

pub returns : goal.returns
returns c =
    rw (take_all _ _ c.loop-run-test.false, c.as_chunks.ensures.front, lines_of_chunks) at c.loop-run.invariant
