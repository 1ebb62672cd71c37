-- One theorem covers all the rows: the outcome of each step, the whole state and the whole memory, is what its row says.
-- Assumes nothing.
use Rattle.std.specs.Prelude.{List, [], map, ◌∷◌, ◌++◌, refl, ◌≡◌, ℕ}
use Rattle.std.specs.Int.Count.{count_trailing_zeros}
use Rattle.decode.specs.Decode.{first_of, has_second, operand_of}
use Rattle.decode.specs.Instructions.{add_states, div_states, eight, row, rows, shift_states, single}
use Rattle.decode.specs.Opcode.{Opcode, cost_of, in_modes, in_rows, known, mode_bits, opcode_of, states_at, unknown}
use Rattle.image.specs.Decode.{condition_from}
use Rattle.machine.specs.Answers.{states_of}
use Rattle.machine.specs.Enter.{enter_of}
use Rattle.status.specs.Saved.{pushed}
use Rattle.machine.specs.Execute.{after_operation, body_of, event_of}
use Rattle.plan.specs.Result.{alu_of}
use Rattle.status.specs.Flag.{flag_word}
use Rattle.transfer.specs.Need.{address_of, load_need, need_of, value_stored}
use Rattle.machine.specs.Plan.{plan_fetch, plan_first, plan_of, plan_operand, plan_second}
use Rattle.status.specs.Pending.{interrupt_in}
use Rattle.plan.specs.End.{end_of}
use Rattle.machine.specs.Ports.{mmu_after, output_after, port_elsewhere, record_after_in, tlb_after, tlb_port}
use Rattle.machine.specs.Register.{reg_in, regs_after, sp_in, ssp_after, ssp_with, usp_after, usp_with}
use Rattle.machine.specs.Step.{commit, step_of}
use Rattle.transfer.specs.Transfer.{transfer_of}
use Rattle.machine.specs.declared.Event.TheVariants.{Entered, Executed, Halted, Lost}
use Rattle.mmu.specs.Access.{access_of, aligned_access, by_entry, by_tlb}
use Rattle.mmu.specs.Lookup.{lookup_from, lookup_of}
use Rattle.memory.specs.Memory.{stored}
use Rattle.alu.specs.Alu.{add_of, adds_of, and_of, div_of, mod_of, mul_of, or_of, shl_of, shra_of, shrl_of, sub_of, xor_of}
use Rattle.jump.specs.Jump.{condition_of, condition_undefined}
use Rattle.timer.specs.Port.{after_in_at, after_out_at, value_at}
use Rattle.word.specs.Signed.{signed4}
use Rattle.worked.specs.Fields.{value_of, values_of}
use Rattle.worked.specs.Following.{following}
use Rattle.worked.specs.Further.{entries, misreadings, pages, results}
use Rattle.worked.specs.Rows.{Row, expected, memory_of, starred, state_of, stepped, vectors_from}
use Rattle.worked.specs.Timers.{timers}

abbrev pub all : List Row
all = starred ++ misreadings ++ results ++ pages ++ entries ++ timers ++ following

pub examples : map stepped all ≡ map expected all
unfolding starred misreadings results pages entries timers following memory_of state_of condition_from value_of values_of vectors_from
    add_of adds_of and_of div_of mod_of mul_of or_of shl_of shra_of shrl_of sub_of xor_of condition_of condition_undefined signed4
    first_of has_second operand_of add_states cost_of div_states eight in_modes in_rows mode_bits opcode_of row rows shift_states single states_at
    enter_of pushed after_operation alu_of body_of event_of flag_word stored access_of aligned_access by_entry by_tlb lookup_from lookup_of transfer_of
    address_of load_need need_of value_stored end_of interrupt_in plan_fetch plan_first plan_of plan_operand plan_second count_trailing_zeros
    mmu_after output_after port_elsewhere record_after_in tlb_after tlb_port after_in_at after_out_at value_at
    reg_in regs_after sp_in ssp_after ssp_with usp_after usp_with commit step_of
examples = refl

-- ---- states of events

-- "entry costs 12 states in place of the instruction's (H)", "HALT 5", lost with "0 states"
pub event_states :
    (n number pc flag : ℕ) → map states_of (Executed n ∷ Entered number pc flag ∷ Halted ∷ Lost ∷ []) ≡ (n ∷ 12 ∷ 5 ∷ 0 ∷ [])
event_states n number pc flag = refl

-- the states of a first byte's instruction
abbrev pub states_in : Opcode → ℕ
states_in unknown = 0
states_in (known r mode) = cost_of r mode

-- HALT and SVC have the same states in the list of instructions
pub halt_states : states_in (opcode_of 0xff) ≡ states_of Halted
unfolding cost_of eight in_modes in_rows mode_bits opcode_of row rows single states_at
halt_states = refl

pub svc_states : (number pc flag : ℕ) → states_in (opcode_of 0xf0) ≡ states_of (Entered number pc flag)
unfolding cost_of eight in_modes in_rows mode_bits opcode_of row rows single states_at
svc_states number pc flag = refl
