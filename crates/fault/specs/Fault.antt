-- The record of a fault. Document 01, "Faults in order": "Fault 11 stores its address and adds its cause bit; 10 stores the page."
-- Assumes nothing.
use Rattle.std.specs.Prelude.{ℕ}
use Rattle.std.specs.Int.Bits.{bit_or}
use Rattle.mmu.specs.Answers.{cause_bit}
use Rattle.mmu.specs.declared.Fault.{Fault}
use Rattle.mmu.specs.declared.Fault.TheVariants.{Missing, Odd, Refused}
use Rattle.word.specs.Word.{upper}
use Rattle.fault.specs.declared.FaultRecord.{FaultRecord}
use Rattle.fault.specs.declared.Readout.{Readout}

-- the record after a fault of an access to `a`
abbrev pub record_after : Fault → ℕ → FaultRecord → FaultRecord
record_after Odd a r = record { violation = a; cause = bit_or r.cause (cause_bit Odd); missed = r.missed }
record_after Missing a r = record { violation = r.violation; cause = r.cause; missed = upper a }
record_after Refused a r = record { violation = a; cause = bit_or r.cause (cause_bit Refused); missed = r.missed }

-- ---- The readers of the record. Document 02, 1/14: "the same record has a reader that consumes and a reader that doesn't".

-- a reader gives the record as it is, and leaves it with this cause
abbrev pub leaving : ℕ → FaultRecord → Readout
leaving cause r = record { given = r; left = record { violation = r.violation; cause = cause; missed = r.missed } }

-- "When I open the viewer on a stopped machine, it must show the fault cause and leave it there": a look
abbrev pub looked : FaultRecord → Readout
looked r = leaving r.cause r

-- "The kernel's IN of A4h still clears it"; document 01: "A4h: IN gives the cause and clears it"
abbrev pub consumed : FaultRecord → Readout
consumed r = leaving 0 r
