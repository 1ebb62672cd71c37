-- A worked look. A user program stores where it has no right: the kernel is entered with 11, and a look shows cause 1 and the address. The
-- kernel's IN of A4h then still reads the cause, a look after it shows cause 0, and a second IN reads 0.
-- Assumes nothing.
use Rattle.std.specs.Prelude.{List, [], ◌∷◌, ◌≡◌, refl, ℕ, ◌+◌, replicate, set, Ok}
use Rattle.std.proofs.lemmas.List.Edits.{sets}
use Rattle.decode.specs.Decode.{first_of, has_second, operand_of}
use Rattle.decode.specs.Instructions.{eight, row, rows, single}
use Rattle.decode.specs.Opcode.{in_modes, in_rows, mode_bits, opcode_of}
use Rattle.direct.specs.Call.{run_call}
use Rattle.endian.specs.Bytes.{byte_from, word_bytes, word_from}
use Rattle.image.specs.Decode.{condition_from, state_from}
use Rattle.image.specs.Image.{image_of}
use Rattle.layout.specs.Entries.{entry_bytes}
use Rattle.layout.specs.Layout.{image_size, mmu_at, pc_at, regs_at, ssp_at, tlb_at}
use Rattle.layout.specs.Valid.{all_zeros, control_good, count_good, flag_good, good_image, pending_good, timer_good, zeros_good}
use Rattle.call.specs.Valid.{image_valid, memory_valid, report_fits}
use Rattle.look.specs.Call.{fault_call}
use Rattle.machine.specs.Enter.{enter_of}
use Rattle.machine.specs.Execute.{after_operation, body_of, event_of}
use Rattle.machine.specs.Plan.{plan_fetch, plan_first, plan_of, plan_operand, plan_second}
use Rattle.machine.specs.Ports.{port_elsewhere, record_after_in}
use Rattle.machine.specs.Register.{reg_in, regs_after, sp_in, ssp_after, usp_after}
use Rattle.machine.specs.Run.{run_from, run_of}
use Rattle.machine.specs.Step.{commit, step_of}
use Rattle.memory.specs.Memory.{stored}
use Rattle.mmu.specs.Access.{access_of, aligned_access, by_entry, by_tlb}
use Rattle.mmu.specs.Lookup.{lookup_from, lookup_of}
use Rattle.plan.specs.End.{end_of}
use Rattle.call.specs.Call.{Call}
use Rattle.report.specs.Layout.{number_at, report_size}
use Rattle.report.specs.Report.{report_of}
use Rattle.status.specs.Flag.{flag_word}
use Rattle.status.specs.Pending.{interrupt_in}
use Rattle.status.specs.Saved.{pushed}
use Rattle.timer.specs.Port.{after_in_at, value_at}
use Rattle.transfer.specs.Need.{address_of, need_of, value_stored}
use Rattle.transfer.specs.Transfer.{transfer_of}

-- ---- the buffers

-- FLAG is 0, G1 1210h, G2 FFFFh, PC 1200h, SSP 0100h, the MMU on; the one TLB entry, 128534h, maps page 12h to frame 34h with the rights to read
-- and to execute
unfoldable pub image : List ℕ
image =
    sets
    (set (set (set (sets (replicate image_size 0) (regs_at + 2) (0x12 ∷ 0x10 ∷ 0xff ∷ 0xff ∷ [])) ssp_at 0x01) pc_at 0x12) mmu_at 1)
    tlb_at (0x12 ∷ 0x85 ∷ 0x34 ∷ [])

-- zero but ST G0,[G1] at 3400h, which the program finds at 1200h; the vector of 11, at FFF6h, which is 0200h; and there IN G0,00A4h and
-- IN G2,00A4h
unfoldable pub memory : List ℕ
memory =
    sets (set (sets (replicate 65536 0) 0x3400 (0x16 ∷ 0x01 ∷ [])) 0xfff6 0x02)
    0x0200 (0xb0 ∷ 0x00 ∷ 0x00 ∷ 0xa4 ∷ 0xb0 ∷ 0x20 ∷ 0x00 ∷ 0xa4 ∷ [])

unfoldable pub report : List ℕ
report = replicate report_size 0

-- ---- the calls

-- the program up to the kernel
unfoldable pub fault : Call
fault = run_call memory image 9 report

-- the kernel's first IN, and its second, each on what the call before it left
unfoldable pub first_in : Call
first_in = run_call fault.lent.memory fault.lent.image 1 report

unfoldable pub second_in : Call
second_in = run_call first_in.lent.memory first_in.lent.image 1 report

pub record Looks : Type 0 where
  -- the report of the program's run: entered with 11
  pub number : byte_from fault.lent.report number_at ≡ 11
  -- the look then: cause 1, missed page 0, violation address 1210h
  pub shown : (fault_call fault.lent.image).answer ≡ Ok 0x01001210
  -- the kernel's first IN reads that cause, to G0
  pub read : word_from first_in.lent.image regs_at ≡ 1
  -- the look after it: cause 0, the rest as before
  pub gone : (fault_call first_in.lent.image).answer ≡ Ok 0x00001210
  -- the second IN reads 0, to G2
  pub read_again : word_from second_in.lent.image (regs_at + 4) ≡ 0

pub worked_look : Looks
unfolding image memory report fault first_in second_in fault_call run_call memory_valid image_valid good_image flag_good pending_good all_zeros zeros_good timer_good
    count_good control_good report_fits state_from condition_from report_of image_of word_bytes entry_bytes run_of run_from commit step_of enter_of pushed flag_word
    first_of has_second operand_of eight in_modes in_rows mode_bits opcode_of row rows single access_of aligned_access by_entry by_tlb lookup_from lookup_of
    address_of need_of value_stored transfer_of end_of interrupt_in plan_fetch plan_first plan_of plan_operand plan_second reg_in sp_in
    after_operation body_of event_of port_elsewhere value_at record_after_in after_in_at regs_after ssp_after usp_after stored
worked_look = record { number = refl; shown = refl; read = refl; gone = refl; read_again = refl }
