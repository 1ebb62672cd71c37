use mathlib.Core.Path.{◌≡◌}
use lib.ListN.{length}
use Rattle.pages.specs.Maps.{ShowsFrom}
use Rattle.pages.proofs.Left.{Left}
use Rattle.pages.proofs.map.by_tlb.Given as goal

abbrev pub invariant-loop-entry : goal.invariant-loop-entry
invariant-loop-entry l =
    ShowsFrom l.fn.tlb (length l.entry-iterator.iter.rest.now) l.map × (length l.map ≡ 256) × Left l.fn.tlb l.entry-iterator.iter.rest.now
