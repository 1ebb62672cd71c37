-- `hot::turn::top` meets its contract.
use Rattle.hot.proofs.turn.top.Goals as goal

pub returns : goal.returns
returns c = rw c.wide.ensures at c.read.ensures
