-- What a run answers and leaves in the lent buffers.
-- Assumes nothing.
use Rattle.std.specs.Prelude.{List, ◌++◌, ℕ, drop, length, Ok}
use Rattle.call.specs.Call.{Call, buffers, called, unless_refused}
use Rattle.call.specs.Valid.{run_valid}
use Rattle.image.specs.Decode.{state_from}
use Rattle.image.specs.Image.{image_of}
use Rattle.machine.specs.Run.{Ran, run_of}
use Rattle.report.specs.Layout.{report_size}
use Rattle.report.specs.Report.{report_of_ran}

-- memory and image after the run, and its report in front of what the report held; given is the number of report bytes filled
abbrev pub ran_call : Ran → List ℕ → Call
ran_call r rep = called (Ok report_size) (buffers r.memory (image_of r.state) (report_of_ran r ++ drop report_size rep))

-- a run
unfoldable pub run_call : List ℕ → List ℕ → ℕ → List ℕ → Call
run_call m b allowance rep =
    unless_refused (run_valid (length m) b (length rep)) (buffers m b rep) (ran_call (run_of allowance (state_from b) m) rep)
