-- `hot::Hot::ret` meets its contract.
use mathlib.Core.Path.{refl}
use native.Mathlib.Omega.{arith}
use borrow.Author.Rules.{rules}
use Rattle.hot.specs.Moves.{ret_tells}
use Rattle.hot.specs.Tells.{stop}
use Rattle.hot.proofs.Hot.ret.Goals as goal

pub returns-then-x-eq1 : goal.returns-then-x-eq1
returns-then-x-eq1 c = stop c.stop.ensures refl refl

pub returns-then-x-ge-NONE : goal.returns-then-x-ge-NONE
returns-then-x-ge-NONE c = stop c.stop-then-x-ge-NONE.ensures refl refl

pub returns : goal.returns
returns c =
    let a = c.args in
    let top' = c.top-x in
    rw c.to.ensures (ret_tells a.map.now a.regs.now (search (rules, c.well_formed)) a.mem.now a.self a.w c.requires.0 c.requires.1
    c.plus.result top'.result (omega (arith, c.if-x-eq1.false)) c.plus.ensures
    (top'.ensures c.if-x-ge-NONE.false))
