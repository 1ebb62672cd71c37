-- What milliseconds do. Document 02, 2/14: "advances each started timer; on reaching its period the count returns to 0, fired is set, and line 0
-- or 1 is raised if bit 15 is set. Period 0 never fires and keeps count 0."
-- Assumes nothing.
use Rattle.std.specs.Prelude.{Bool, false, true, ◌≡◌, ℕ, ◌%◌, ◌+◌, ◌<◌, ◌≤◌}
use Rattle.std.specs.Int.Bits.{bit_or}
use Rattle.machine.specs.State.{with_pending, with_timers}
use Rattle.machine.specs.declared.State.{State}
use Rattle.roundtrip.specs.Statement.{Sound}
use Rattle.settings.specs.Settings.{after_time}
use Rattle.timer.specs.Time.{counted, elapsed, interrupts, lines_of, started}
use Rattle.timer.specs.declared.Elapsed.{Elapsed}
use Rattle.timer.specs.declared.Timer.{Timer}
use Rattle.times.specs.Statement.{timer_of}

-- `time_each`: each timer goes by itself; the lines that were raised are added to those pending, and nothing else of the state changes
abbrev pub TimeEach : Type 0
TimeEach =
    (n : ℕ) (st : State) → let first : Elapsed = elapsed n st.timers.timer0 in let second : Elapsed = elapsed n st.timers.timer1 in
    after_time n st
    ≡ with_timers (with_pending st (bit_or st.pending (lines_of first.raised second.raised)))
    (record { timer0 = first.timer; timer1 = second.timer })

-- `time_adds`: in one command or in several, one behind the other
abbrev pub TimeAdds : Type 0
TimeAdds = (n k : ℕ) (st : State) → after_time (n + k) st ≡ after_time k (after_time n st)

-- the timer as it was, and its line not raised
abbrev pub Idle : ℕ → Timer → Type 0
Idle n t = elapsed n t ≡ record { timer = t; raised = false }

-- `time_stopped`: so of a timer that is not started
abbrev pub TimeStopped : Type 0
TimeStopped = (n : ℕ) (t : Timer) → started t ≡ false → Idle n t

-- `period_zero`: and of one with period 0
abbrev pub PeriodZero : Type 0
PeriodZero = (n : ℕ) (t : Timer) → t.period ≡ 0 → Idle n t

-- `count_zero`: whose count is 0 in the state of a good image
abbrev pub CountZero : Type 0
CountZero = (k : Bool) (st : State) → Sound st → (timer_of k st.timers).period ≡ 0 → (timer_of k st.timers).count ≡ 0

-- `time_short`: short of its period a started timer counts, and does not fire
abbrev pub TimeShort : Type 0
TimeShort =
    (n : ℕ) (t : Timer) → started t ≡ true → t.count + n < t.period
    → elapsed n t ≡ record { timer = counted t (t.count + n) t.fired; raised = false }

-- `time_fires`: at its period or beyond it has fired, the remainder is counted, and its line is raised if bit 15 is set
abbrev pub TimeFires : Type 0
TimeFires =
    (n : ℕ) (t : Timer) → started t ≡ true → t.count < t.period → t.period ≤ t.count + n
    → elapsed n t ≡ record { timer = counted t ((t.count + n) % t.period) true; raised = interrupts t }
