-- A state out of its image.
-- Assumes nothing.
use Rattle.std.specs.Prelude.{cond, List, ℕ, ◌+◌, eqb}
use Rattle.machine.specs.Answers.{condition_number}
use Rattle.status.specs.Flag.{flags_from}
use Rattle.machine.specs.declared.Condition.{Condition}
use Rattle.machine.specs.declared.Condition.TheVariants.{Halted, Lost, Running}
use Rattle.machine.specs.declared.State.{State}
use Rattle.endian.specs.Bytes.{byte_from, word_from, words_from}
use Rattle.layout.specs.Entries.{tlb_entries_from}
use Rattle.layout.specs.Layout.{
  cause_at,
  condition_at,
  control_in,
  count_in,
  fired_in,
  flag_at,
  input_at,
  missed_at,
  mmu_at,
  output_at,
  pc_at,
  pending_at,
  period_in,
  regs_at,
  ssp_at,
  timer0_at,
  timer1_at,
  tlb_at,
  usp_at,
  violation_at,
}
use Rattle.timer.specs.declared.Timer.{Timer}

-- the condition of this number
unfoldable pub condition_from : ℕ → Condition
condition_from n = cond (eqb n (condition_number Running)) Running (cond (eqb n (condition_number Halted)) Halted Lost)

-- the timer at an offset
abbrev pub timer_from : List ℕ → ℕ → Timer
timer_from b at =
    record {
      count = word_from b (at + count_in);
      period = word_from b (at + period_in);
      control = word_from b (at + control_in);
      fired = eqb (word_from b (at + fired_in)) 1;
    }

-- the state of an image
unfoldable pub state_from : List ℕ → State
state_from b =
    record {
      regs = words_from b regs_at 13;
      ssp = word_from b ssp_at;
      usp = word_from b usp_at;
      pc = word_from b pc_at;
      flags = flags_from (word_from b flag_at);
      pending = word_from b pending_at;
      ports = record { input = byte_from b input_at; output = byte_from b output_at };
      mmu = eqb (byte_from b mmu_at) 1;
      condition = condition_from (byte_from b condition_at);
      fault = record { violation = word_from b violation_at; cause = byte_from b cause_at; missed = byte_from b missed_at };
      tlb = tlb_entries_from b tlb_at 8;
      timers = record { timer0 = timer_from b timer0_at; timer1 = timer_from b timer1_at };
    }
