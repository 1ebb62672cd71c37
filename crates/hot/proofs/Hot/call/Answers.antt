-- `hot::Hot::call` meets its contract.
use mathlib.Core.Path.{refl, ◌≡◌}
use native.Mathlib.Omega.{arith}
use borrow.Author.Rules.{rules}
use Rattle.pages.specs.Accesses.{not_wrote, wrote}
use Rattle.source.specs.Fields.{mode_of}
use Rattle.hot.specs.Moves.{call_tells}
use Rattle.hot.specs.Tells.{stop}
use Rattle.hot.proofs.Hot.call.Goals as goal

pub returns-then-add-ge-NONE : goal.returns-then-add-ge-NONE
returns-then-add-ge-NONE c = stop c.stop.ensures refl refl

pub returns-then-d-ge-NONE : goal.returns-then-d-ge-NONE
returns-then-d-ge-NONE c = stop c.stop-then-d-ge-NONE.ensures refl refl

pub returns-then-target-eq1 : goal.returns-then-target-eq1
returns-then-target-eq1 c = stop c.stop-then-target-eq1.ensures refl refl

pub returns-then-write : goal.returns-then-write
returns-then-write c =
    let a = c.args in
    let mode' : mode_of a.w ≡ a.mode = omega (arith, c.requires.1, c.requires.2) in
    let minus' = c.minus-sp in
    let plus3' = c.plus-2 in
    rw c.to.ensures (call_tells a.map.now a.regs.now (search (rules, c.well_formed)) a.mem.now a.self a.w c.requires.0
    (omega (arith, c.requires.2)) (rw mode' (c.added-add.ensures c.if-add-ge-NONE.false)) c.fetch-d.result
    (rw c.plus.ensures at (c.fetch-d.ensures c.if-d-ge-NONE.false)) (omega (arith, c.requires.1, c.requires.2))
    c.if-d-ge-NONE.false c.plus-target.result c.plus-target.ensures (omega (arith, c.if-target-eq1.false))
    plus3'.result plus3'.ensures minus'.result minus'.ensures
    (wrote c.write.ensures c.if-write.true))

pub returns : goal.returns
returns c = stop c.stop-2.ensures refl (not_wrote c.write.ensures c.if-write.false)
