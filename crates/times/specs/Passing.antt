-- What milliseconds do to the timers.
-- Assumes nothing.
use Rattle.std.proofs.Math.Bool.{and-false}
use Rattle.std.specs.Prelude.{false, true, ◌≡◌, suc, zero, ◌+◌, ◌<◌}
use Rattle.std.proofs.Common.{◌∙◌, suc-add, zero-add, arith, le-ltb, lt-ltb}
use Rattle.layout.specs.TimerLaws.{count_below}
use Rattle.roundtrip.specs.Timers.{GoodTimer, TimerFits}
use Rattle.settings.specs.Laws.{time_at_once}
use Rattle.settings.specs.Settings.{after_millisecond, after_time}
use Rattle.timer.specs.AtOnce.{below, come_to, idle}
use Rattle.timer.specs.Time.{counts, started}
use Rattle.timer.specs.declared.Timer.{Timer}
use Rattle.times.specs.Milliseconds.{CountZero, PeriodZero, TimeAdds, TimeEach, TimeFires, TimeShort, TimeStopped}

pub time_each : TimeEach
time_each = time_at_once

pub time_adds : TimeAdds
unfolding after_time
time_adds zero k st = rw (zero-add k)
time_adds (suc n) k st = rw (suc-add n k) (time_adds n k (after_millisecond st))

-- ---- timers that do not count

stopped : (t : Timer) → started t ≡ false → counts t ≡ false
unfolding counts
stopped t e = rw e

no_period : (t : Timer) → t.period ≡ 0 → counts t ≡ false
unfolding counts
no_period t e = rw e (and-false (started t))

pub time_stopped : TimeStopped
time_stopped n t e = idle n t (stopped t e)

pub period_zero : PeriodZero
period_zero n t e = idle n t (no_period t e)

zero_count : (t : Timer) → GoodTimer t → TimerFits t → t.period ≡ 0 → t.count ≡ 0
zero_count t g f e = omega (arith, count_below _ _ g.count, f.count)

pub count_zero : CountZero
count_zero false st s e = zero_count st.timers.timer0 s.good.timers.0 s.ranged.clocks.0 e
count_zero true st s e = zero_count st.timers.timer1 s.good.timers.1 s.ranged.clocks.1 e

-- ---- timers that do

running : (t : Timer) → started t ≡ true → t.count < t.period → counts t ≡ true
unfolding counts
running t e h = rw (e, lt-ltb 0 t.period (omega arith))

pub time_short : TimeShort
unfolding come_to
time_short n t e h = below n t (running t e (omega arith)) (omega arith) ∙ rw (lt-ltb (t.count + n) t.period h)

pub time_fires : TimeFires
unfolding come_to
time_fires n t e l h = below n t (running t e l) l ∙ rw (le-ltb (t.count + n) t.period h)
