use Rattle.std.proofs.Common.{take}
use Rattle.std.specs.List.{flat_map}
use Rattle.listing.specs.Listing.{line_of}
use Rattle.text.specs.Writer.{Wrote}
use Rattle.listing.proofs.put_lines.Given as goal

abbrev pub invariant-loop-run : goal.invariant-loop-run
invariant-loop-run l = Wrote l.initial.to l.to (flat_map line_of (take l.run-index l.runs))
