-- `hot::Hot::divide` meets its contract.
use mathlib.Core.Path.{refl}
use Rattle.hot.specs.Tells.{by_zero, quotient}
use Rattle.hot.proofs.Hot.divide.Goals as goal

pub returns-then-b-eq0 : goal.returns-then-b-eq0
returns-then-b-eq0 c = by_zero c.stop.ensures refl

pub returns : goal.returns
returns c = quotient c.if-b-eq0.false c.with.ensures.value c.with.ensures.written
