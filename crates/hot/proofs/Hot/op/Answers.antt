-- `hot::Hot::op` meets its contract.
use Rattle.hot.specs.Moves.{operate_tells}
use Rattle.hot.proofs.Hot.op.Goals as goal

pub returns : goal.returns
returns c = operate_tells c.operate.ensures c.source_of-x.ensures
