-- `runner::ahead::result_of` meets its contract.
use mathlib.Core.Path.{refl, sym}
use Rattle.runner.proofs.ahead.result_of.Goals as goal

pub returns-then-s : goal.returns-then-s
returns-then-s c = rw c.if-s.true (λ e. (refl, sym e))

pub returns-then-z : goal.returns-then-z
returns-then-z c = rw (c.if-s.false, c.if-z.true) (λ e. (refl, refl))

pub returns-else-z : goal.returns-else-z
returns-else-z c = rw (c.if-s.false, c.if-z.false) (λ e. (refl, refl))
