-- Looks at a stopped machine, on calls: what is shown of runs, carried over to their reports.
-- Assumes nothing.
use Rattle.std.specs.Prelude.{List, ◌≡◌, ℕ, suc, zero}
use Rattle.std.proofs.Common.{arith}
use Rattle.counting.proofs.Theorem.{counted}
use Rattle.endian.specs.Bytes.{word_bytes}
use Rattle.fault.specs.declared.FaultRecord.{FaultRecord}
use Rattle.image.specs.Decode.{state_from}
use Rattle.machine.specs.Answers.{ending_entered, ending_number}
use Rattle.machine.specs.Run.{Ran, run_of}
use Rattle.machine.specs.declared.Ending.{Ending}
use Rattle.machine.specs.declared.Ending.TheVariants as ending
use Rattle.machine.specs.declared.State.{State}
use Rattle.plan.specs.declared.Plan.{Plan}
use Rattle.readers.proofs.Shown.{run_misses}
use Rattle.readers.specs.Statement.{Last}
use Rattle.readers.specs.Stopped.{LastPlan, Misses, Stopped}
use Rattle.readers.proofs.Stops.{run_stopped}
use Rattle.report.specs.Report.{flag_shown, pc_shown, report_of}
use Rattle.roundtrip.specs.Statement.{Word}
use Rattle.looks.specs.Statement.{Given, LookShows}
use Rattle.looks.specs.Stopped.{CallMisses, CallStopped, ReportSays}
use Rattle.looks.proofs.Theorem.{call_is, ending_told, ending_from, left_parts, start}

-- what the last step was to do does not rest on the PC and the FLAG that were saved
plan_as :
    (end : Ending) (pc flag ssp : ℕ) (x : Plan) → LastPlan (ending_from (ending_number end) (ending_entered end) pc flag) ssp x
    → LastPlan end ssp x
plan_as ending.Spent pc flag ssp x h = h
plan_as (ending.Entered number saved shown) pc flag ssp x h = h
plan_as ending.Halted pc flag ssp x h = h
plan_as ending.Lost pc flag ssp x h = h

stopped_as :
    (k : ℕ) (end : Ending) (pc flag : ℕ) (st : State) (m : List ℕ) (r : FaultRecord)
    → Stopped k (ending_from (ending_number end) (ending_entered end) pc flag) st m r → Stopped k end st m r
stopped_as zero end pc flag st m r s = s
stopped_as (suc last) end pc flag st m r s = record { plan = plan_as end pc flag _ _ s.plan; stored = s.stored }

module _ (m b : List ℕ) (n : ℕ) (rep : List ℕ) (g : Given m b rep) where
  abbrev done : Ran
  done = run_of n (state_from b) m

  -- what the record shows after the run, the look's answer shows
  look_shows : (Claim : FaultRecord → Type 0) → Claim done.state.fault → LookShows m b n rep Claim
  look_shows Claim h = record { given = done.state.fault; parts = left_parts m b n rep g; shows = h }

  module _ (steps : ℕ) (end : Ending) (w : Word n) (t : ReportSays m b n rep steps end) where
    ended : done.ending ≡ ending_from (ending_number end) (ending_entered end) (pc_shown done.ending 0) (flag_shown done.ending 0)
    unfolding report_of
    ended = ending_told done.ending _ _ (rw (call_is m b n rep g) at t.ending) (rw (call_is m b n rep g) at t.number)

    did : done.steps ≡ steps
    unfolding report_of word_bytes
    did = omega (arith, rw (call_is m b n rep g) at t.counted, (counted n (state_from b) m).stepped.within)

    stopped : Stopped steps end (state_from b) m done.state.fault
    stopped = stopped_as steps end _ _ (state_from b) m _ (rw (ended, did) at (run_stopped n (state_from b) m))

  misses : (steps saved flag : ℕ) → Word n → ReportSays m b n rep steps (ending.Entered 10 saved flag) → Last Misses (state_from b) m steps done.state.fault
  misses steps saved flag w t =
      let entry : Ending = ending.Entered 10 saved flag in
      rw (did steps entry w t) at (run_misses n (state_from b) m _ _ (start m b n rep g).good (ended steps entry w t))

pub call_stopped : CallStopped
call_stopped m b n rep steps end g w t = look_shows m b n rep g _ (stopped m b n rep g steps end w t)

pub call_misses : CallMisses
call_misses m b n rep steps saved flag g w t = look_shows m b n rep g _ (misses m b n rep g steps saved flag w t)
