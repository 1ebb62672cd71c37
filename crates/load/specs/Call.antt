-- What a call for the busiest window answers and leaves of the records. Document 02, 6/14.
-- Assumes nothing.
use Rattle.std.specs.Prelude.{List, ℕ, Ok}
use Rattle.call.specs.Call.{Answer, Called, called, unless_refused}
use Rattle.refusal.specs.Refusal.{Validity, between, good_if}
use Rattle.refusal.specs.declared.Cause.TheVariants.{WindowWidth}
use Rattle.load.specs.Load.{busiest_of}

-- "A width of 0 or above 4,096 is refused with 10."
unfoldable pub width_valid : ℕ → Validity
width_valid width = good_if (between 1 4096 width) WindowWidth

-- "Records come through a lent buffer of any length": the width is all that is tested. Given is the busiest window's load, the least figure that "no
-- window of that many consecutive records exceeds in records on"; the records are kept.
unfoldable pub busiest_call : List ℕ → ℕ → Called Answer (List ℕ)
busiest_call records width = unless_refused (width_valid width) records (called (Ok (busiest_of records width)) records)
