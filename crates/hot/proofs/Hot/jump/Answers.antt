-- `hot::Hot::jump` meets its contract.
use mathlib.Core.Path.{refl, sym, ◌∙◌, ◌≡◌}
use native.Mathlib.Omega.{arith}
use borrow.Author.Rules.{rules}
use Rattle.memory.specs.Memory.{word_at}
use Rattle.mmu.specs.declared.Right.TheVariants.{Execute}
use Rattle.word.specs.Word.{plus}
use Rattle.pages.specs.Accesses.{Reads}
use Rattle.pages.specs.Maps.{word_placed}
use Rattle.source.specs.Fields.{mode_of}
use Rattle.word.specs.declared.Width.TheVariants.{Word}
use Rattle.hot.specs.Moves.{jump_tells, pass_tells}
use Rattle.hot.specs.Tells.{Added, stop}
use Rattle.hot.proofs.Hot.jump.Goals as goal

pub returns-then-n-eq-NONE_HOLDS : goal.returns-then-n-eq-NONE_HOLDS
returns-then-n-eq-NONE_HOLDS c = stop c.stop.ensures refl refl

pub returns-then-add-ge-NONE : goal.returns-then-add-ge-NONE
returns-then-add-ge-NONE c = stop c.stop-then-add-ge-NONE.ensures refl refl

pub returns-then-i-ge-NOWHERE : goal.returns-then-i-ge-NOWHERE
returns-then-i-ge-NOWHERE c = stop c.stop-then-i-ge-NOWHERE.ensures refl refl

pub word_at-requires : goal.word_at-requires
word_at-requires c =
    let p = c.place-i.ensures c.if-i-ge-NOWHERE.false in
    (c.if-i-ge-NOWHERE.false, omega (arith, p.place, c.plus.ensures, c.requires.0))

pub returns-then-taken : goal.returns-then-taken
returns-then-taken c =
    let a = c.args in
    let mode' : mode_of a.w ≡ a.mode = omega (arith, c.requires.1, c.requires.2) in
    let added' = c.added-add in
    let ad : Added a.regs.now (mode_of a.w) a.self.pc a.w added'.result = rw mode' (added'.ensures
    c.if-add-ge-NONE.false) in
    let place' = c.place-i in
    let p = place'.ensures c.if-i-ge-NOWHERE.false in
    let f : Reads a.map.now a.mem.now Execute Word (plus a.self.pc 2) c.word_at.result = record {
      at = place'.result;
      placed = word_placed (rw c.plus.ensures at p) (omega (arith, c.requires.0));
      value = c.word_at.ensures;
    } in
    jump_tells a.map.now a.regs.now (search (rules, c.well_formed)) a.mem.now a.self a.w c.requires.0 (omega (arith, c.requires.2))
    ad c.word_at.result f
    (omega (arith, c.requires.1, c.requires.2))
    c.if-n-eq-NONE_HOLDS.false
    (omega (arith, c.word_at.type_inv))
    c.plus-then-taken.result c.plus-then-taken.ensures (sym c.taken.ensures ∙ c.if-taken.true) c.to_even.ensures

pub returns : goal.returns
returns c =
    let a = c.args in
    let mode' : mode_of a.w ≡ a.mode = omega (arith, c.requires.1, c.requires.2) in
    let added' = c.added-add in
    let ad : Added a.regs.now (mode_of a.w) a.self.pc a.w added'.result = rw mode' (added'.ensures
    c.if-add-ge-NONE.false) in
    let place' = c.place-i in
    let p = place'.ensures c.if-i-ge-NOWHERE.false in
    let f : Reads a.map.now a.mem.now Execute Word (plus a.self.pc 2) (word_at a.mem.now place'.result) = record {
      at = place'.result;
      placed = word_placed (rw c.plus.ensures at p) (omega (arith, c.requires.0));
      value = refl;
    } in
    rw c.to.ensures (pass_tells a.map.now a.regs.now (search (rules, c.well_formed)) a.mem.now a.self a.w c.requires.0
    (omega (arith, c.requires.2))
    ad _ f (omega (arith, c.requires.1, c.requires.2))
    c.if-n-eq-NONE_HOLDS.false _ c.plus-2.ensures
    (sym c.taken.ensures ∙ c.if-taken.false))
