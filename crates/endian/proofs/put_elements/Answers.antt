-- `endian::put_elements` meets its contract.
use Rattle.endian.specs.Laws.{stored_all, stored_more, stored_none}
use Rattle.endian.proofs.put_elements.Goals as goal

pub loop-k-init : goal.loop-k-init
loop-k-init g c = stored_none g.met.P.Packed.laid

pub loop-k-preserved : goal.loop-k-preserved
loop-k-preserved g c =
    let element = c.index-elements-k in
    stored_more g.met.P.Packed.laid c.loop-k.invariant element.result c.loop-k-test.true
    (rw element.is at c.put_element.ensures) (cc)

pub returns : goal.returns
returns g c = stored_all g.met.P.Packed.laid c.loop-k.invariant c.loop-k-test.false
