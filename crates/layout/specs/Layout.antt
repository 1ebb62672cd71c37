-- The layout of a state image. Document 01, "Registers and state image": "Its state image is 68 bytes, upper byte first: 13 words G0-G11 and
-- FP, SSP, USP, PC, FLAG, pending lines (word ...), input byte, output byte, MMU on (0/1), condition ..., violation address (word), cause
-- (0-3), missed page, eight TLB entries of 3 bytes."
-- Document 02, 2/14: "The image grows to 84 bytes, four words per timer at the end: count, period, control, fired (0/1)."
-- Assumes nothing.
use Rattle.std.specs.Prelude.{ℕ}

abbrev pub regs_at : ℕ
regs_at = 0

abbrev pub ssp_at : ℕ
ssp_at = 26

abbrev pub usp_at : ℕ
usp_at = 28

abbrev pub pc_at : ℕ
pc_at = 30

abbrev pub flag_at : ℕ
flag_at = 32

abbrev pub pending_at : ℕ
pending_at = 34

abbrev pub input_at : ℕ
input_at = 36

abbrev pub output_at : ℕ
output_at = 37

abbrev pub mmu_at : ℕ
mmu_at = 38

abbrev pub condition_at : ℕ
condition_at = 39

abbrev pub violation_at : ℕ
violation_at = 40

abbrev pub cause_at : ℕ
cause_at = 42

abbrev pub missed_at : ℕ
missed_at = 43

abbrev pub tlb_at : ℕ
tlb_at = 44

abbrev pub timer0_at : ℕ
timer0_at = 68

abbrev pub timer1_at : ℕ
timer1_at = 76

abbrev pub image_size : ℕ
image_size = 84

-- a timer's words, from its first byte on
abbrev pub count_in : ℕ
count_in = 0

abbrev pub period_in : ℕ
period_in = 2

abbrev pub control_in : ℕ
control_in = 4

abbrev pub fired_in : ℕ
fired_in = 6

abbrev pub timer_size : ℕ
timer_size = 8
