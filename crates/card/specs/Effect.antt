-- What a card's commands do to the state, to memory and to the report. Document 01, "Bench card and its listing"; document 02, 2/14.
-- Assumes nothing.
use Rattle.std.specs.Prelude.{List, [], ◌++◌, ◌∷◌, ℕ, set}
use Rattle.report.specs.Report.{report_of_ran}
use Rattle.machine.specs.Flag.{with_flag}
use Rattle.machine.specs.Run.{Ran, run_of}
use Rattle.machine.specs.State.{with_mmu, with_tlb}
use Rattle.machine.specs.declared.State.{State}
use Rattle.settings.specs.Settings.{after_time, with_lines, with_register}
use Rattle.command.specs.declared.Command.{Command}
use Rattle.command.specs.declared.Command.TheVariants.{Byte, Entry, Flag, Lines, Mmu, Register, Run, Time}

-- the state and the memory after some commands, and the report bytes that they wrote
pub record Effect : Type 0 where
  pub state : State
  pub memory : List ℕ
  pub reports : List ℕ

abbrev pub effect : State → List ℕ → List ℕ → Effect
effect st m reports = record { state = st; memory = m; reports = reports }

-- "04 allowance(2), a run": "Each run writes 12 bytes"
abbrev pub run_effect : Ran → Effect
run_effect r = effect r.state r.memory (report_of_ran r)

-- what a command does
unfoldable pub effect_of : Command → State → List ℕ → Effect
effect_of (Byte a v) st m = effect st (set m a v) []
effect_of (Register n v) st m = effect (with_register st n v) m []
effect_of (Lines lines byte) st m = effect (with_lines st lines byte) m []
effect_of (Run n) st m = run_effect (run_of n st m)
effect_of (Entry k bits) st m = effect (with_tlb st (set st.tlb k bits)) m []
effect_of (Mmu on) st m = effect (with_mmu st on) m []
effect_of (Flag w) st m = effect (with_flag st w) m []
effect_of (Time ms) st m = effect (after_time ms st) m []

-- some bytes, and what came behind them
abbrev pub behind : List ℕ → Effect → Effect
behind reports p = effect p.state p.memory (reports ++ p.reports)

-- the commands one after the other, their reports one behind the other
unfoldable pub execute_of : List Command → State → List ℕ → Effect
execute_of [] st m = effect st m []
execute_of (x ∷ xs) st m =
    let done : Effect = effect_of x st m in
    behind done.reports (execute_of xs done.state done.memory)
