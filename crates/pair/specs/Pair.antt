-- A worked pair of calls: a user program that finds its table by the PC and enters the kernel, on two memories that hold different handlers'
-- addresses. `pair`: the premises of `isolated_calls` are met, so what it says holds of the two calls, for every allowance. `entered`: with an
-- allowance of 9 they leave equal reports, the following address in G0, the table's word in G1, and the two handlers' addresses in PC.
-- Assumes nothing.
use Rattle.std.specs.Prelude.{Bool, false, true, ◌&&◌, List, [], ◌∷◌, ◌≡◌, refl, ℕ, suc, zero, ◌+◌, ◌<◌, ltb, get_or, length, replicate, set, Ok}
use Rattle.std.proofs.Common.{true≢false, ap, sym, ◌∙◌, arith, ltb-true, length-set, get_or-set_other}
use Rattle.std.proofs.lemmas.List.{length-replicate}
use Rattle.std.proofs.Math.Seq.{length-sets}
use Rattle.std.proofs.lemmas.List.Edits.{sets}
use Rattle.decode.specs.Decode.{first_of, has_second, operand_of}
use Rattle.decode.specs.Instructions.{eight, row, rows, single}
use Rattle.decode.specs.Opcode.{cost_of, in_modes, in_rows, mode_bits, opcode_of, states_at}
use Rattle.image.specs.Decode.{condition_from, state_from}
use Rattle.layout.specs.Entries.{entry_bytes}
use Rattle.image.specs.Image.{image_of}
use Rattle.layout.specs.Layout.{image_size, mmu_at, pc_at, regs_at, ssp_at, tlb_at}
use Rattle.layout.specs.Valid.{all_zeros, control_good, count_good, flag_good, good_image, pending_good, timer_good, zeros_good}
use Rattle.call.specs.Valid.{image_valid, memory_valid, report_fits}
use Rattle.isolation.specs.Statement.{has_right, visible}
use Rattle.machine.specs.Enter.{enter_of}
use Rattle.machine.specs.Execute.{after_operation, body_of, event_of}
use Rattle.status.specs.Saved.{pushed}
use Rattle.status.specs.Flag.{flag_word}
use Rattle.transfer.specs.Need.{address_of, load_need, need_of, value_stored}
use Rattle.machine.specs.Plan.{plan_fetch, plan_first, plan_of, plan_operand, plan_second}
use Rattle.status.specs.Pending.{interrupt_in}
use Rattle.plan.specs.End.{end_of}
use Rattle.machine.specs.Register.{reg_in, regs_after, sp_in, ssp_after, usp_after}
use Rattle.machine.specs.Run.{run_from, run_of}
use Rattle.machine.specs.Step.{commit, step_of}
use Rattle.transfer.specs.Transfer.{transfer_of}
use Rattle.mmu.specs.Access.{access_of, aligned_access, by_entry, by_tlb}
use Rattle.mmu.specs.Lookup.{lookup_from, lookup_of}
use Rattle.memory.specs.Memory.{stored}
use Rattle.report.specs.Layout.{report_size}
use Rattle.report.specs.Report.{report_of}
use Rattle.roundtrip.specs.Each.{each_set}
use Rattle.roundtrip.specs.Statement.{Byte, Bytes}
use Rattle.direct.specs.Call.{run_call}
use Rattle.call.specs.Call.{Call}
use Rattle.call.specs.Valid.{run_valid}
use Rattle.endian.specs.Bytes.{word_bytes, word_from}
use Rattle.word.specs.Cases.{rest, this}
use Rattle.word.specs.Word.{upper}
use Rattle.calls.specs.Statement.{Given, Shared}
use Rattle.calls.proofs.Theorem.{isolated_calls}

-- ---- the buffers

-- FLAG is 0, PC 1200h, SSP 0100h, the MMU on; the one TLB entry, 128534h, maps page 12h to frame 34h with the rights to read and to execute
unfoldable pub image : List ℕ
image =
    set (set (set (set (set (set (replicate image_size 0) ssp_at 0x01) pc_at 0x12) mmu_at 1) tlb_at 0x12) (tlb_at + 1) 0x85) (tlb_at + 2) 0x34

-- at 1200h LD G0,PC, at 1202h LD G1,[4+PC], at 1206h SVC, and at 120Ah, which is 4 + 1206h, the table: 1234h
unfoldable pub program : List ℕ
program = word_bytes (0x0c0f ∷ 0x091f ∷ 0x0004 ∷ 0xf000 ∷ 0 ∷ 0x1234 ∷ [])

-- zero but the program at 3400h, which is at 1200h for the user
unfoldable pub memory : List ℕ
memory = sets (replicate 65536 0) 0x3400 program

-- the vector of SVC, at FFFEh, is another: the handler is at 2000h, not at 0000h
unfoldable pub memory' : List ℕ
memory' = set memory 0xfffe 0x20

unfoldable pub report : List ℕ
report = replicate report_size 0

-- ---- the premises

zero_bytes : (n : ℕ) → Bytes (replicate n 0)
zero_bytes zero k = omega arith
zero_bytes (suc n) zero = omega arith
zero_bytes (suc n) (suc k) = zero_bytes n k

set_bytes : (l : List ℕ) (k v : ℕ) → v < 256 → Bytes l → Bytes (set l k v)
set_bytes l k v h b = each_set Byte l k v b h

-- a list of bytes, by a test
abbrev small : List ℕ → Bool
small [] = true
small (x ∷ xs) = ltb x 256 && small xs

small_bytes : (l : List ℕ) → small l ≡ true → Bytes l
small_bytes [] e k = omega arith
small_bytes (x ∷ xs) e zero = ltb-true x 256 (this (ltb x 256) (small xs) e)
small_bytes (x ∷ xs) e (suc k) = small_bytes xs (rest (ltb x 256) (small xs) e) k

image_bytes_lem : Bytes image
unfolding image
image_bytes_lem = small_bytes image refl

sets_bytes : (bs : List ℕ) → small bs ≡ true → (l : List ℕ) (k : ℕ) → Bytes l → Bytes (sets l k bs)
sets_bytes [] e l k h = h
sets_bytes (b ∷ bs) e l k h =
    sets_bytes bs (rest (ltb b 256) (small bs) e) (set l k b) (suc k) (set_bytes l k b (ltb-true b 256 (this (ltb b 256) (small bs) e)) h)

program_small : small program ≡ true
unfolding program word_bytes
program_small = refl

memory_bytes_lem : Bytes memory
unfolding memory
memory_bytes_lem = sets_bytes program program_small (replicate 65536 0) 0x3400 (zero_bytes 65536)

memory_bytes'_lem : Bytes memory'
unfolding memory'
memory_bytes'_lem = set_bytes memory 0xfffe 0x20 (omega arith) memory_bytes_lem

memory_long_lem : length memory ≡ 65536
unfolding memory
memory_long_lem = length-sets {A = ℕ} (replicate 65536 0) 0x3400 program ∙ length-replicate {A = ℕ} 65536 0

memory_long'_lem : length memory' ≡ 65536
unfolding memory'
memory_long'_lem = length-set memory 0xfffe 0x20 ∙ memory_long_lem

-- a byte of a frame that cannot be seen may be another
other_byte :
    (tlb m : List ℕ) (at v : ℕ) → visible tlb (upper at) ≡ false → (a : ℕ) → visible tlb (upper a) ≡ true → get_or m a 0 ≡ get_or (set m at v) a 0
other_byte tlb m at v h a s = sym (get_or-set_other m at a v 0 (λ e. true≢false (sym s ∙ ap (λ (k : ℕ). visible tlb (upper k)) e ∙ h)))

hidden : visible (state_from image).tlb (upper 0xfffe) ≡ false
unfolding image state_from has_right
hidden = refl

given : Given memory memory' image
unfolding image memory' state_from
given =
    record {
      image_bytes = image_bytes_lem;
      memory_bytes = memory_bytes_lem;
      memory_bytes' = memory_bytes'_lem;
      user = record { user = refl; no_ports = refl; mmu_on = refl };
      alike =
          record {
            long = memory_long_lem;
            long' = memory_long'_lem;
            same = λ a h. other_byte (state_from image).tlb memory 0xfffe 0x20 hidden a;
          };
    }

tested : run_valid (length memory) image (length report) ≡ Ok tt
unfolding image report memory_valid image_valid good_image flag_good pending_good all_zeros zeros_good timer_good count_good control_good report_fits
tested = ap (λ (n : ℕ). run_valid n image (length report)) memory_long_lem

-- ---- the calls

pub pair : (allowance : ℕ) → Shared memory memory' image (run_call memory image allowance report) (run_call memory' image allowance report)
pair allowance = (isolated_calls memory memory' image allowance report (memory_long_lem ∙ sym memory_long'_lem)).passed tested given

-- what the two calls leave with an allowance of 9
pub record Ends (call call' : Call) : Type 0 where
  -- SVC enters the kernel with 15, after three steps of 4, 7 and 12 states; the saved PC is 1208h
  pub report : call.lent.report ≡ 1 ∷ 15 ∷ 0 ∷ 3 ∷ 0 ∷ 0 ∷ 0 ∷ 23 ∷ 0x12 ∷ 0x08 ∷ 0 ∷ 0 ∷ []
  pub report' : call'.lent.report ≡ call.lent.report
  -- G0 has the following address, G1 the table's word
  pub following : word_from call.lent.image regs_at ≡ 0x1202
  pub following' : word_from call'.lent.image regs_at ≡ 0x1202
  pub table : word_from call.lent.image (regs_at + 2) ≡ 0x1234
  pub table' : word_from call'.lent.image (regs_at + 2) ≡ 0x1234
  -- PC is the handler's address, another in each memory
  pub handler : word_from call.lent.image pc_at ≡ 0
  pub handler' : word_from call'.lent.image pc_at ≡ 0x2000

pub entered : Ends (run_call memory image 9 report) (run_call memory' image 9 report)
unfolding image memory memory' program report run_call memory_valid image_valid good_image flag_good pending_good all_zeros zeros_good timer_good
    count_good control_good report_fits state_from condition_from report_of image_of word_bytes entry_bytes run_of run_from commit step_of enter_of pushed flag_word
    first_of has_second operand_of eight in_modes in_rows mode_bits opcode_of row rows single cost_of states_at access_of aligned_access by_entry by_tlb lookup_from
    lookup_of address_of load_need need_of value_stored transfer_of end_of interrupt_in plan_fetch plan_first plan_of plan_operand plan_second
    after_operation body_of event_of reg_in sp_in regs_after ssp_after usp_after stored
entered =
    record { report = refl; report' = refl; following = refl; following' = refl; table = refl; table' = refl; handler = refl; handler' = refl }
