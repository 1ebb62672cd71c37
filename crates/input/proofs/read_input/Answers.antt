-- At each turn the bytes that were read stand at the front, and those behind them are as before.
use Rattle.input.proofs.Turns.{read_on}
use Rattle.input.proofs.read_input.Goals as goal

pub loop-count-preserved : goal.loop-count-preserved
loop-count-preserved g c = read_on c.loop-count.invariant c.in-Ok.more c.in-Ok.ensures
