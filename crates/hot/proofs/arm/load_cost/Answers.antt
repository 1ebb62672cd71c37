-- `hot::arm::load_cost` meets its contract.
use borrow.Author.Tests.{eq-eqb, ne_eqb}
use Rattle.source.specs.Rows.{load_cost}
use Rattle.hot.proofs.arm.load_cost.Goals as goal

pub returns-then-mode-eq4 : goal.returns-then-mode-eq4
unfolding load_cost
returns-then-mode-eq4 c = λ e. rw (eq-eqb _ _ c.if-mode-eq4.true)

pub returns-else-mode-eq4 : goal.returns-else-mode-eq4
unfolding load_cost
returns-else-mode-eq4 c = λ e. rw (ne_eqb _ _ c.if-mode-eq4.false) e
