-- What a view answers and leaves in the lent buffers.
-- Assumes nothing.
use Rattle.std.specs.Prelude.{List, ◌++◌, ℕ, drop, length, Ok}
use Rattle.call.specs.Call.{Call, buffers, called, unless_refused}
use Rattle.call.specs.Valid.{run_valid}
use Rattle.image.specs.Decode.{state_from}
use Rattle.machine.specs.Run.{run_of}
use Rattle.report.specs.Layout.{report_size}
use Rattle.report.specs.Report.{report_of_ran}

-- the report that a run of allowance 0 would write, in front of what the report held; memory and image are kept; given is the
-- number of report bytes filled
abbrev pub viewed_call : List ℕ → List ℕ → List ℕ → Call
viewed_call m b rep = called (Ok report_size) (buffers m b (report_of_ran (run_of 0 (state_from b) m) ++ drop report_size rep))

-- a view
unfoldable pub view_call : List ℕ → List ℕ → List ℕ → Call
view_call m b rep = unless_refused (run_valid (length m) b (length rep)) (buffers m b rep) (viewed_call m b rep)
