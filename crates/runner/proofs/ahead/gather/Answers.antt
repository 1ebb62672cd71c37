-- `runner::ahead::gather` meets its contract.
use borrow.Author.Rules.{rules}
use Rattle.refinement.specs.Hot.{first_thirteen}
use Rattle.runner.proofs.ahead.gather.Goals as goal

pub returns : goal.returns
returns c =
    rw (c.set_sp.ensures, c.z.ensures, c.s.ensures, first_thirteen c.args.rs (search (rules, c.well_formed)))
