-- `hot::Hot::no` meets its contract.
use borrow.Author.Rules.{rules}
use Rattle.hot.specs.Moves.{no_tells}
use Rattle.hot.proofs.Hot.no.Goals as goal

pub returns : goal.returns
returns c =
    let a = c.args in
    rw c.to.ensures (no_tells a.map.now a.regs.now (search (rules, c.well_formed)) a.mem.now a.self a.w c.requires.0 c.plus.result
    c.plus.ensures c.requires.1)
