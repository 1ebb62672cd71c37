-- `runner::ahead::spread` meets its contract.
use borrow.Author.Rules.{rules}
use Rattle.refinement.specs.Hot.{spread_out}
use Rattle.runner.proofs.ahead.spread.Goals as goal

pub returns : goal.returns
returns c = spread_out c.args.state c.sp-sp.result (search (rules, c.well_formed)) c.sp-sp.ensures
