use Rattle.endian.specs.Laws.{Stored}
use Rattle.endian.proofs.put_elements.Given as goal

abbrev pub invariant-loop-k : goal.invariant-loop-k
invariant-loop-k g l = Stored g.P.Packed.stored l.initial.bytes l.at l.elements l.bytes l.k
