-- `hot::Hot::to_even` meets its contract.
use native.Mathlib.Omega.{arith}
use Rattle.hot.specs.Tells.{halts, leads}
use Rattle.hot.proofs.Hot.to_even.Goals as goal

pub returns-then-pc-eq1 : goal.returns-then-pc-eq1
returns-then-pc-eq1 c = halts c.stop.ensures

pub returns : goal.returns
returns c = leads (omega (arith, c.if-pc-eq1.false)) c.to.ensures
