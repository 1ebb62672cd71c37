-- The numbers and values that document 01 gives to the rights and to the faults of an access.
-- Assumes nothing.
use Rattle.std.specs.Prelude.{ℕ}
use Rattle.mmu.specs.declared.Fault.{Fault}
use Rattle.mmu.specs.declared.Fault.TheVariants.{Missing, Odd, Refused}
use Rattle.mmu.specs.declared.Right.{Right}
use Rattle.mmu.specs.declared.Right.TheVariants.{Execute, Read, Write}

-- "odd word address (11 ...), then no entry (10), then right (11 ...)"
abbrev pub fault_number : Fault → ℕ
fault_number Odd = 11
fault_number Missing = 10
fault_number Refused = 11

-- "odd word address (11, cause bit 1, ...)", "right (11, cause bit 0)": what a fault adds to the cause
abbrev pub cause_bit : Fault → ℕ
cause_bit Odd = 2
cause_bit Missing = 0
cause_bit Refused = 1

-- "rights read 10, write 9, execute 8": the right's bit in a TLB entry
abbrev pub right_bit : Right → ℕ
right_bit Read = 10
right_bit Write = 9
right_bit Execute = 8
