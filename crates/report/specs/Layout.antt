-- The layout of a report. Document 01, "Bench card and its listing": "ending ..., number entered or FFh, steps(2), states(4), PC(2), FLAG(2)".
-- Assumes nothing.
use Rattle.std.specs.Prelude.{ℕ}

abbrev pub ending_at : ℕ
ending_at = 0

abbrev pub number_at : ℕ
number_at = 1

abbrev pub steps_at : ℕ
steps_at = 2

abbrev pub states_at : ℕ
states_at = 4

abbrev pub pc_at : ℕ
pc_at = 8

abbrev pub flag_at : ℕ
flag_at = 10

abbrev pub report_size : ℕ
report_size = 12
