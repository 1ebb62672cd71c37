-- TLB entries, numbers of 24 bits. Document 01, "MMU": "page 23-16, V (valid) 15, two zeros, R-bit (referenced) 12, D (dirty) 11, rights read
-- 10, write 9, execute 8, frame 7-0".
-- Assumes nothing.
use Rattle.std.specs.Prelude.{Bool, cond, ℕ, ◌%◌, ◌+◌, ◌/◌, ◌^◌}
use Rattle.word.specs.Word.{is_set}
use Rattle.mmu.specs.Answers.{right_bit}
use Rattle.mmu.specs.declared.Right.{Right}
use Rattle.mmu.specs.declared.Right.TheVariants.{Execute, Read, Write}

abbrev pub page_in : ℕ → ℕ
page_in entry = entry / 65536

abbrev pub frame_in : ℕ → ℕ
frame_in entry = entry % 256

abbrev pub valid : ℕ → Bool
valid entry = is_set 15 entry

abbrev pub gives : Right → ℕ → Bool
gives right entry = is_set (right_bit right) entry

-- a bit of an entry set
abbrev pub with_bit : ℕ → ℕ → ℕ
with_bit k entry = cond (is_set k entry) entry (entry + 2 ^ k)

-- "Each granted access sets its R-bit, each granted write also D"
abbrev pub marked : Right → ℕ → ℕ
marked Read entry = with_bit 12 entry
marked Execute entry = with_bit 12 entry
marked Write entry = with_bit 11 (with_bit 12 entry)

-- the marks of a granted access, by their bits
abbrev pub marks : Right → ℕ
marks Read = 2 ^ 12
marks Execute = 2 ^ 12
marks Write = 2 ^ 12 + 2 ^ 11
