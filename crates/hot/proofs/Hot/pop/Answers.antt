-- `hot::Hot::pop` meets its contract.
use mathlib.Core.Path.{refl}
use native.Mathlib.Omega.{arith}
use borrow.Author.Rules.{rules}
use Rattle.hot.specs.Moves.{pop_tells}
use Rattle.hot.specs.Tells.{stop}
use Rattle.hot.proofs.Hot.pop.Goals as goal

pub returns-then-d-ge-USP : goal.returns-then-d-ge-USP
returns-then-d-ge-USP c = stop c.stop.ensures refl refl

pub returns-then-x-ge-NONE : goal.returns-then-x-ge-NONE
returns-then-x-ge-NONE c = stop c.stop-then-x-ge-NONE.ensures refl refl

pub returns : goal.returns
returns c =
    let a = c.args in
    rw c.to.ensures (pop_tells a.map.now a.regs.now (search (rules, c.well_formed)) a.mem.now a.self a.w c.requires.0 c.plus-2.result
    c.plus-2.ensures c.requires.1 (omega (arith, c.if-d-ge-USP.false))
    c.plus.result c.top-x.result c.plus.ensures (c.top-x.ensures c.if-x-ge-NONE.false))
