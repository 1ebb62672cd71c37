-- The worked card of document 01, from its bytes to its listing: the files examples/worked.card and examples/worked.txt, byte for byte.
-- Assumes nothing.
use Rattle.std.specs.Prelude.{List, [], ◌++◌, ◌∷◌, refl, ◌≡◌, ℕ}
use Rattle.card.specs.Call.{card_valid, filled_part}
use Rattle.command.specs.Card.{read_at_most, read_from, reading_of, runs_in}
use Rattle.command.specs.Command.{command_of, good_of, operands_of, parsed_of}
use Rattle.card.specs.Effect.{effect_of, execute_of}
use Rattle.settings.specs.Settings.{with_register}
use Rattle.decode.specs.Decode.{first_of, has_second}
use Rattle.decode.specs.Instructions.{eight, row, rows, single}
use Rattle.decode.specs.Opcode.{cost_of, in_modes, in_rows, mode_bits, opcode_of, states_at}
use Rattle.image.specs.Decode.{condition_from, state_from}
use Rattle.layout.specs.Valid.{all_zeros, control_good, count_good, flag_good, good_image, pending_good, timer_good, zeros_good}
use Rattle.call.specs.Valid.{image_valid, memory_valid, report_fits}
use Rattle.listing.specs.Listing.{ending_text, line_of, lines_of, listing_of, number_text, runs_text}
use Rattle.text.specs.Text.{ascii, decimal_of, hex_of}
use Rattle.machine.specs.Enter.{enter_of}
use Rattle.status.specs.Saved.{pushed}
use Rattle.machine.specs.Execute.{after_operation, body_of, event_of}
use Rattle.status.specs.Flag.{flag_word}
use Rattle.transfer.specs.Need.{need_of}
use Rattle.machine.specs.Plan.{plan_fetch, plan_first, plan_of, plan_operand, plan_second}
use Rattle.status.specs.Pending.{interrupt_in}
use Rattle.plan.specs.End.{end_of}
use Rattle.machine.specs.Run.{run_from, run_of}
use Rattle.machine.specs.Step.{commit, step_of}
use Rattle.transfer.specs.Transfer.{transfer_of}
use Rattle.mmu.specs.Access.{access_of, aligned_access}
use Rattle.memory.specs.Memory.{stored}
use Rattle.report.specs.Report.{report_of}
use Rattle.endian.specs.Bytes.{word_bytes}
use Rattle.bench.specs.Bench.{bench_of}

-- F000h, SVC, at 0006h; SSP 1000h; a run of 10 steps; FF00h, HALT, at 0000h; a run of 2 steps
abbrev pub worked_card : List ℕ
worked_card =
    (0x01 ∷ 0x00 ∷ 0x06 ∷ 0xf0 ∷ [])
    ++ (0x02 ∷ 0x0d ∷ 0x10 ∷ 0x00 ∷ [])
    ++ (0x04 ∷ 0x00 ∷ 0x0a ∷ [])
    ++ (0x01 ∷ 0x00 ∷ 0x00 ∷ 0xff ∷ [])
    ++ (0x04 ∷ 0x00 ∷ 0x02 ∷ [])

abbrev pub worked_text : List ℕ
worked_text = ascii "runs 2\n" ++ (ascii "entered 15 4 21 0008 0040\n" ++ ascii "halted - 1 5 0002 0040\n")

pub worked_listing : bench_of worked_card ≡ worked_text
unfolding bench_of filled_part card_valid read_at_most read_from reading_of runs_in command_of good_of operands_of parsed_of effect_of execute_of with_register
    memory_valid image_valid good_image flag_good pending_good all_zeros zeros_good timer_good count_good control_good report_fits state_from condition_from
    listing_of runs_text lines_of line_of ending_text number_text decimal_of hex_of report_of word_bytes
    run_of run_from commit step_of after_operation body_of event_of enter_of pushed flag_word
    first_of has_second cost_of eight in_modes in_rows mode_bits opcode_of row rows single states_at access_of aligned_access stored
    need_of transfer_of end_of interrupt_in plan_fetch plan_first plan_of plan_operand plan_second
worked_listing = refl
