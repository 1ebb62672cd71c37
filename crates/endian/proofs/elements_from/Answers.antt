-- `endian::elements_from` meets its contract.
use Rattle.endian.specs.Laws.{filled_all, filled_more, reads_more}
use Rattle.endian.proofs.elements_from.Goals as goal

pub loop-k-preserved : goal.loop-k-preserved
loop-k-preserved g c =
    let more = reads_more g.met.P.Packed.reads c.args.bytes.now c.args.at c.loop-k.k in
    filled_more c.loop-k.invariant c.element_from.result c.loop-k-test.true (cc more)

pub returns : goal.returns
returns g c = filled_all c.loop-k.invariant c.loop-k-test.false
