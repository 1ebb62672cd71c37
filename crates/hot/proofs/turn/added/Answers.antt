-- `hot::turn::added` meets its contract.
use mathlib.Core.Path.{refl}
use Rattle.source.specs.Fields.{rx_read}
use Rattle.hot.specs.Tells.{none, one}
use Rattle.hot.proofs.turn.added.Goals as goal

pub returns-then-mode-eq0 : goal.returns-then-mode-eq0
returns-then-mode-eq0 c = λ l. none c.if-mode-eq0.true refl

pub returns : goal.returns
returns c = λ l. one c.if-mode-eq0.false (rw c.plus.ensures at (rx_read c.rx.ensures l))
