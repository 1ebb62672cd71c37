-- The tests of memory, image and report. Document 01, the table of refusals, and below it: "A call without card or report skips their tests."
-- Assumes nothing.
use Rattle.std.specs.Prelude.{cond, List, ℕ, eqb, leb, length, Ok}
use Rattle.layout.specs.Layout.{image_size}
use Rattle.layout.specs.Valid.{good_image}
use Rattle.refusal.specs.Refusal.{Validity, and_then, refused}
use Rattle.refusal.specs.declared.Cause.TheVariants.{ImageField, ImageLength, MemoryLength, ReportLength}
use Rattle.report.specs.Layout.{report_size}

-- "memory not 65,536 bytes": refusal 1
unfoldable pub memory_valid : ℕ → Validity
memory_valid long = cond (eqb long 65536) (Ok tt) (refused MemoryLength 0)

-- "image not 68 bytes", which document 02, 2/14, makes 84; "image field beyond its values": refusals 2 and 3
unfoldable pub image_valid : List ℕ → Validity
image_valid image = cond (eqb (length image) image_size) (cond (good_image image) (Ok tt) (refused ImageField 0)) (refused ImageLength 0)

-- memory and image: refusals 1 to 3
abbrev pub machine_valid : ℕ → List ℕ → Validity
machine_valid long image = and_then (memory_valid long) (image_valid image)

-- "report under" the bytes that are needed: refusal 8
unfoldable pub report_fits : ℕ → ℕ → Validity
report_fits long needed = cond (leb needed long) (Ok tt) (refused ReportLength 0)

-- the tests of a run and of a view, which have no card: refusals 1, 2, 3 and 8
abbrev pub run_valid : ℕ → List ℕ → ℕ → Validity
run_valid memory image report = and_then (machine_valid memory image) (report_fits report report_size)
