-- `hot::Hot::push` meets its contract.
use mathlib.Core.Path.{refl}
use borrow.Author.Rules.{rules}
use Rattle.pages.specs.Accesses.{not_wrote, wrote}
use Rattle.source.specs.Fields.{register_read}
use Rattle.hot.specs.Moves.{push_tells}
use Rattle.hot.specs.Tells.{stop}
use Rattle.hot.proofs.Hot.push.Goals as goal

pub returns-then-v-ge-NONE : goal.returns-then-v-ge-NONE
returns-then-v-ge-NONE c = stop c.stop.ensures refl refl

pub returns-then-write : goal.returns-then-write
returns-then-write c =
    let a = c.args in
    let pre' = c.requires in
    let minus' = c.minus-sp in
    let r = register_read c.register-v.ensures
    c.if-v-ge-NONE.false in
    rw c.to.ensures (push_tells a.map.now a.regs.now (search (rules, c.well_formed)) a.mem.now a.self a.w pre'.0 c.plus.result
    c.plus.ensures pre'.1 r.low minus'.result minus'.ensures
    (rw r.value at (wrote c.write.ensures c.if-write.true)))

pub returns : goal.returns
returns c = stop c.stop-2.ensures refl (not_wrote c.write.ensures c.if-write.false)
