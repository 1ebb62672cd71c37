use lib.ListN.{length}
use Rattle.endian.specs.Laws.{Filled}
use Rattle.endian.proofs.elements_from.Given as goal

abbrev pub invariant-loop-k : goal.invariant-loop-k
invariant-loop-k g l = Filled (g.P.Packed.many l.bytes l.at) (length l.initial.elements) l.elements l.k
