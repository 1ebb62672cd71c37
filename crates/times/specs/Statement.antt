-- Time passes only by command 08. Document 02, 2/14: "Time passes only by this command, so the user-run guarantee compares equal timers too."
-- Assumes nothing.
use Rattle.std.specs.Prelude.{Bool, cond, false, true, ◌&&◌, List, ◌⊎◌, ◌≡◌, ℕ, ◌<◌, eqb, drop}
use Rattle.decode.specs.Code.{IN, OUT}
use Rattle.direct.specs.Call.{run_call}
use Rattle.image.specs.Decode.{state_from}
use Rattle.layout.specs.Layout.{timer0_at}
use Rattle.machine.specs.Plan.{plan_of}
use Rattle.machine.specs.Run.{iterate, run_of}
use Rattle.machine.specs.Step.{step_of}
use Rattle.machine.specs.declared.State.{State}
use Rattle.plan.specs.declared.Operation.{Operation}
use Rattle.plan.specs.declared.Plan.{Plan}
use Rattle.plan.specs.declared.Plan.TheVariants.{Interrupt, Perform, Trap, Violation}
use Rattle.roundtrip.specs.Statement.{Bytes}
use Rattle.status.specs.Pending.{lowest_line, without}
use Rattle.timer.specs.Port.{period_set, timer0_port, timer1_port, timers_after_in, timers_after_out}
use Rattle.timer.specs.declared.Timer.{Timer}
use Rattle.timer.specs.declared.Timers.{Timers}

-- ---- one of the two timers: false for Timer0, true for Timer1

abbrev pub timer_of : Bool → Timers → Timer
timer_of false ts = ts.timer0
timer_of true ts = ts.timer1

-- its first port, which sets its period
abbrev pub period_port : Bool → ℕ
period_port false = timer0_port
period_port true = timer1_port

-- no millisecond has passed for a timer: count and period are as they were, and fired is set only if it was
pub record Still (t t' : Timer) : Type 0 where
  pub count : t'.count ≡ t.count
  pub period : t'.period ≡ t.period
  pub fired : t'.fired ≡ true → t.fired ≡ true

-- ---- a step

-- what a plan does to the timers, carried out: IN and OUT go to their ports, everything else leaves them
abbrev pub timers_by : Plan → Timers → Timers
timers_by (Interrupt line) ts = ts
timers_by (Violation v) ts = ts
timers_by (Trap why saved) ts = ts
timers_by (Perform op) ts =
    cond (eqb op.code IN) (timers_after_in ts op.port) (cond (eqb op.code OUT) (timers_after_out ts op.port op.held) ts)

-- `step_timers`: a step does that to the timers, and nothing else
abbrev pub StepTimers : Type 0
StepTimers = (st : State) (m : List ℕ) → (step_of st m).state.timers ≡ timers_by (plan_of st m).plan st.timers

-- a plan is an OUT to the port that sets a timer's period
abbrev pub sets_period : Bool → Plan → Bool
sets_period k (Interrupt line) = false
sets_period k (Violation v) = false
sets_period k (Trap why saved) = false
sets_period k (Perform op) = eqb op.code OUT && eqb op.port (period_port k)

-- so of step number i, the first being number 0
abbrev pub sets_at : Bool → ℕ → State → List ℕ → Bool
sets_at k i st m = sets_period k (plan_of (iterate i st m).state (iterate i st m).memory).plan

-- `step_sets`: such a step sets it and zeroes the count
abbrev pub StepSets : Type 0
StepSets =
    (k : Bool) (st : State) (m : List ℕ) (op : Operation) → (plan_of st m).plan ≡ Perform op → op.code ≡ OUT → op.port ≡ period_port k
    → timer_of k (step_of st m).state.timers ≡ period_set (timer_of k st.timers) op.held

-- ---- a run

-- none of its steps sets the period of a timer
abbrev pub QuietRun : Bool → ℕ → State → List ℕ → Type 0
QuietRun k n st m = (i : ℕ) → i < (run_of n st m).steps → sets_at k i st m ≡ false

-- `run_still`: in such a run no time passes for it
abbrev pub RunStill : Type 0
RunStill =
    (k : Bool) (n : ℕ) (st : State) (m : List ℕ) → QuietRun k n st m
    → Still (timer_of k st.timers) (timer_of k (run_of n st m).state.timers)

-- `run_lines`: no run raises a line: those pending stay, but for the lowest, which may have been entered
abbrev pub RunLines : Type 0
RunLines =
    (n : ℕ) (st : State) (m : List ℕ)
    → ((run_of n st m).state.pending ≡ st.pending) ⊎ ((run_of n st m).state.pending ≡ without st.pending (lowest_line st.pending))

-- `user_timers`: a run in user mode without I/O privilege changes no timer at all, be the MMU on or off
abbrev pub UserTimers : Type 0
UserTimers =
    (n : ℕ) (st : State) (m : List ℕ) → st.flags.p ≡ false → st.flags.i ≡ false → (run_of n st m).state.timers ≡ st.timers

-- `user_call`: so too of a call, refused or not: it leaves the timers' bytes of the image, 68 to 83
abbrev pub UserCall : Type 0
UserCall =
    (m b rep : List ℕ) (n : ℕ) → Bytes b → (state_from b).flags.p ≡ false → (state_from b).flags.i ≡ false
    → drop timer0_at (run_call m b n rep).lent.image ≡ drop timer0_at b
