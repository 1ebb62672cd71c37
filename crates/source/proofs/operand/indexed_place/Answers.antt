-- `source::operand::indexed_place` meets its contract.
use borrow.Author.Tests.{le-ltb, lt-ltb}
use Rattle.source.specs.Fields.{indexed_address}
use Rattle.source.proofs.operand.indexed_place.Goals as goal

pub returns-then-d-ge-NONE : goal.returns-then-d-ge-NONE
unfolding indexed_address
returns-then-d-ge-NONE c = rw (le-ltb _ 65536 c.if-d-ge-NONE.true)

pub returns-then-x-ge-NONE : goal.returns-then-x-ge-NONE
unfolding indexed_address
returns-then-x-ge-NONE c = rw (← c.rx-x.ensures, lt-ltb _ 65536 c.if-d-ge-NONE.false, le-ltb _ 65536 c.if-x-ge-NONE.true)

pub returns : goal.returns
unfolding indexed_address
returns c =
    rw (
      c.wide.ensures,
      c.plus.ensures,
      ← c.rx-x.ensures,
      lt-ltb _ 65536 c.if-d-ge-NONE.false,
      lt-ltb _ 65536 c.if-x-ge-NONE.false,
    )
