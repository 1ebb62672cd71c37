-- `text::Writer::put_text` meets its contract: at each turn the bytes before the index are written.
use Rattle.std.proofs.lemmas.List.{take_more}
use Rattle.text.specs.Writer.{both}
use Rattle.text.proofs.Writer.put_text.Goals as goal

pub loop-b-preserved : goal.loop-b-preserved
loop-b-preserved c = rw (take_more _ _ 0 c.loop-b-test.true) (both c.loop-b.invariant c.put.ensures)
