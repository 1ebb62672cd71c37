-- Refusals. Document 01, the table "Cause, tested in this order"; document 02, 5/14: 9; 6/14: 10.
-- Assumes nothing.
use Rattle.std.specs.Prelude.{Bool, cond, ◌&&◌, ℕ, leb, Err, Ok, Result}
use Rattle.refusal.specs.declared.Cause.{Cause}
use Rattle.refusal.specs.declared.Cause.TheVariants.{CardLength, CommandBeyond, CommandShort, CommandUnknown, ImageField, ImageLength, MemoryLength, ReportLength, WinderSetting, WindowWidth}
use Rattle.refusal.specs.declared.Refusal.{Refusal}

-- what the tests of a call say: nothing, or a refusal
abbrev pub Validity : Type 0
Validity = Result (Unit {0}) Refusal

-- "No."
abbrev pub cause_number : Cause → ℕ
cause_number MemoryLength = 1
cause_number ImageLength = 2
cause_number ImageField = 3
cause_number CardLength = 4
cause_number CommandUnknown = 5
cause_number CommandShort = 6
cause_number CommandBeyond = 7
cause_number ReportLength = 8
cause_number WinderSetting = 9
cause_number WindowWidth = 10

-- "Returned": "P=0", or "P, its first byte's position from 0"
abbrev pub refused : Cause → ℕ → Validity
refused cause place = Err (record { cause = cause; place = place })

-- one test: a cause, and whether it is absent
abbrev pub good_if : Bool → Cause → Validity
good_if good cause = cond good (Ok tt) (refused cause 0)

-- from low to high, both included
abbrev pub between : ℕ → ℕ → ℕ → Bool
between low high x = leb low x && leb x high

-- tests "in this order": the first refusal is the call's
abbrev pub and_then : Validity → Validity → Validity
and_then (Err r) v = Err r
and_then (Ok u) v = v
