-- `pages::map::place` meets its contract.
use mathlib.Core.Path.{sym, ◌∙◌}
use native.Mathlib.Omega.{arith}
use Rattle.pages.proofs.map.place.Goals as goal

pub returns-then-is_open : goal.returns-then-is_open
returns-then-is_open c = λ l. record { below = omega arith; aligned = omega arith; granted = sym c.is_open.ensures ∙ c.if-is_open.true; place = c.physical.ensures }

pub returns : goal.returns
returns c = λ l. absurd (omega arith)
