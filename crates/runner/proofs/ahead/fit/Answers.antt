-- `runner::ahead::fit` meets its contract.
use mathlib.Core.Bool.{false≢true}
use mathlib.Core.Path.{sym, ◌∙◌}
use Rattle.runner.proofs.ahead.fit.Goals as goal
use Rattle.runner.proofs.ahead.fit.Goals.{then-on, else-on}

pub returns : goal.returns
returns c =
    rw (← c.translates-on.ensures) (c.of.ensures c.args.state.tlb
    (λ on. elim c.if-on.branch [
      | then-on w ↦ rw w.maps-is w.renew.ensures
      | else-on w ↦ absurd (false≢true (sym w.if-on.false ∙ on))
    ]))
