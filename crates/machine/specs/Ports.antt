-- Ports. Document 01, "MMU": "Ports: ..."; document 02, 2/14. A port is the whole 16-bit address.
-- Assumes nothing.
use Rattle.std.specs.Prelude.{Bool, cond, ◌&&◌, List, ℕ, ◌%◌, ◌*◌, ◌+◌, ◌-◌, ◌/◌, eqb, leb, get_or, set}
use Rattle.mmu.specs.Entry.{page_in}
use Rattle.word.specs.Word.{is_set, lower}
use Rattle.fault.specs.Fault.{consumed}
use Rattle.fault.specs.declared.FaultRecord.{FaultRecord}
use Rattle.timer.specs.Port.{timers_after_in, timers_after_out, timers_value}
use Rattle.timer.specs.declared.Timers.{Timers}
use Rattle.machine.specs.State.{with_fault, with_mmu, with_output, with_timers, with_tlb}
use Rattle.machine.specs.declared.State.{State}

-- the input and the output byte
abbrev pub io_port : ℕ
io_port = 0x18

-- the first and the last of the TLB's ports
abbrev pub first_tlb_port : ℕ
first_tlb_port = 0x80

abbrev pub last_tlb_port : ℕ
last_tlb_port = 0x9e

-- IN gives the violation address, OUT switches the MMU
abbrev pub mmu_port : ℕ
mmu_port = 0xa2

abbrev pub cause_port : ℕ
cause_port = 0xa4

abbrev pub missed_port : ℕ
missed_port = 0xa6

-- "80h + 4 × k holds entry k's page, 82h + 4 × k its lower 16 bits", of k from 0 to 7
abbrev pub is_tlb_port : ℕ → Bool
is_tlb_port port = leb first_tlb_port port && (leb port last_tlb_port && eqb (port % 2) 0)

abbrev pub entry_at : ℕ → ℕ
entry_at port = (port - first_tlb_port) / 4

abbrev pub is_page_port : ℕ → Bool
is_page_port port = eqb (port % 4) 0

-- an entry as its port shows it
abbrev pub entry_shown : ℕ → ℕ → ℕ
entry_shown port entry = cond (is_page_port port) (page_in entry) (entry % 65536)

-- "bits 14, 13 stored as 0"
abbrev pub lower_stored : ℕ → ℕ
lower_stored v = v / 32768 * 32768 + v % 8192

-- an entry after a write of v to its port: "Bytes go by the lower half"
abbrev pub entry_written : ℕ → ℕ → ℕ → ℕ
entry_written port entry v =
    cond (is_page_port port) (lower v * 65536 + entry % 65536) (page_in entry * 65536 + lower_stored v)

-- what the TLB's ports give
unfoldable pub tlb_port : List ℕ → ℕ → ℕ
tlb_port tlb port = cond (is_tlb_port port) (entry_shown port (get_or tlb (entry_at port) 0)) 0

-- What IN gives. "A2h: IN gives the violation address"; "A4h: IN gives the cause and clears it": it is the reader of the fault record that
-- consumes; "A6h: IN gives the missed page"; "18h: IN input byte"; "Any other port, odd ones included, reads 0". Bytes have 0 in the upper
-- half.
unfoldable pub port_elsewhere : ℕ → FaultRecord → List ℕ → ℕ → ℕ
port_elsewhere input fault tlb port =
    cond (eqb port io_port) input
    (cond (eqb port mmu_port) fault.violation
    (cond (eqb port cause_port) (consumed fault).given.cause
    (cond (eqb port missed_port) fault.missed
    (tlb_port tlb port))))

-- with the timers' ports
abbrev pub port_in : Timers → ℕ → FaultRecord → List ℕ → ℕ → ℕ
port_in timers input fault tlb port = timers_value timers (port_elsewhere input fault tlb port) port

abbrev pub port_value : State → ℕ → ℕ
port_value st port = port_in st.timers st.ports.input st.fault st.tlb port

-- the fault record after IN
unfoldable pub record_after_in : FaultRecord → ℕ → FaultRecord
record_after_in fault port = cond (eqb port cause_port) (consumed fault).left fault

abbrev pub after_in : State → ℕ → State
after_in st port = with_timers (with_fault st (record_after_in st.fault port)) (timers_after_in st.timers port)

-- After OUT. The timers' ports; "18h: ... OUT lower half to output byte"; A2h: "bit 0 of OUT switches the MMU"; the TLB's ports. "OUT to A4h and A6h is
-- dropped"; "Any other port ... drops writes".
unfoldable pub output_after : ℕ → ℕ → ℕ → ℕ
output_after output port v = cond (eqb port io_port) (lower v) output

unfoldable pub mmu_after : Bool → ℕ → ℕ → Bool
mmu_after mmu port v = cond (eqb port mmu_port) (is_set 0 v) mmu

unfoldable pub tlb_after : List ℕ → ℕ → ℕ → List ℕ
tlb_after tlb port v = cond (is_tlb_port port) (set tlb (entry_at port) (entry_written port (get_or tlb (entry_at port) 0) v)) tlb

abbrev pub after_out : State → ℕ → ℕ → State
after_out st port v =
    with_timers
    (with_tlb (with_mmu (with_output st (output_after st.ports.output port v)) (mmu_after st.mmu port v)) (tlb_after st.tlb port v))
    (timers_after_out st.timers port v)
