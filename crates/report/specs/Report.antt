-- The report of a run: 12 bytes. Document 01, "Bench card and its listing": "Each run writes 12 bytes: ending (0 spent, 1 entered, 2 halted,
-- 3 lost), number entered or FFh, steps(2), states(4), PC(2), FLAG(2), the last two being the saved ones if entered."
-- Assumes nothing.
use Rattle.std.specs.Prelude.{List, [], ◌++◌, ◌∷◌, ℕ, ◌%◌, ◌/◌}
use Rattle.machine.specs.Answers.{ending_entered, ending_number}
use Rattle.machine.specs.Flag.{flag_of}
use Rattle.machine.specs.Run.{Ran}
use Rattle.machine.specs.declared.Ending.{Ending}
use Rattle.machine.specs.declared.Ending.TheVariants as ending
use Rattle.endian.specs.Bytes.{word_bytes}

-- PC as the report has it: the saved one if entered
abbrev pub pc_shown : Ending → ℕ → ℕ
pc_shown ending.Spent pc = pc
pc_shown (ending.Entered number saved flag) pc = saved
pc_shown ending.Halted pc = pc
pc_shown ending.Lost pc = pc

-- FLAG as the report has it
abbrev pub flag_shown : Ending → ℕ → ℕ
flag_shown ending.Spent flag = flag
flag_shown (ending.Entered number pc saved) flag = saved
flag_shown ending.Halted flag = flag
flag_shown ending.Lost flag = flag

-- the 12 bytes
unfoldable pub report_of : Ending → ℕ → ℕ → ℕ → ℕ → List ℕ
report_of x pc flag steps states =
    (ending_number x ∷ ending_entered x ∷ [])
    ++ word_bytes (steps ∷ states / 65536 ∷ states % 65536 ∷ pc_shown x pc ∷ flag_shown x flag ∷ [])

-- the report of a run
abbrev pub report_of_ran : Ran → List ℕ
report_of_ran r = report_of r.ending r.state.pc (flag_of r.state) r.steps r.states
