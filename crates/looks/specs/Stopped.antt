-- A look at a stopped machine, on calls: behind a run, by what the run's report says. Document 02, 1/14: "When I open the viewer on a stopped machine,
-- it must show the fault cause".
-- Assumes nothing.
use Rattle.std.specs.Prelude.{List, ◌≡◌, ℕ}
use Rattle.direct.specs.Call.{run_call}
use Rattle.endian.specs.Bytes.{byte_from, word_from}
use Rattle.image.specs.Decode.{state_from}
use Rattle.machine.specs.Answers.{ending_entered, ending_number}
use Rattle.machine.specs.declared.Ending.{Ending}
use Rattle.machine.specs.declared.Ending.TheVariants as ending
use Rattle.readers.specs.Statement.{Last}
use Rattle.readers.specs.Stopped.{Misses, Stopped}
use Rattle.report.specs.Layout.{ending_at, number_at, steps_at}
use Rattle.roundtrip.specs.Statement.{Word}
use Rattle.looks.specs.Statement.{Given, LookShows}

-- the report of a run says that it did so many steps, and how it ended
pub record ReportSays (m b : List ℕ) (n : ℕ) (rep : List ℕ) (steps : ℕ) (end : Ending) : Type 0 where
  pub ending : byte_from (run_call m b n rep).lent.report ending_at ≡ ending_number end
  pub number : byte_from (run_call m b n rep).lent.report number_at ≡ ending_entered end
  pub counted : word_from (run_call m b n rep).lent.report steps_at ≡ steps

-- `call_stopped`: the record with what the run's last step stored, or after no step that of the lent image
abbrev pub CallStopped : Type 0
CallStopped =
    (m b : List ℕ) (n : ℕ) (rep : List ℕ) (steps : ℕ) (end : Ending) → Given m b rep → Word n → ReportSays m b n rep steps end
    → LookShows m b n rep (Stopped steps end (state_from b) m)

-- `call_misses`: where the report says that the kernel was entered with 10, the page of the access that found no entry
abbrev pub CallMisses : Type 0
CallMisses =
    (m b : List ℕ) (n : ℕ) (rep : List ℕ) (steps saved flag : ℕ) → Given m b rep → Word n
    → ReportSays m b n rep steps (ending.Entered 10 saved flag) → LookShows m b n rep (Last Misses (state_from b) m steps)
