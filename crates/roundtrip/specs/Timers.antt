-- Which timers have good words in an image, and which fit it.
-- Assumes nothing.
use Rattle.std.specs.Prelude.{true, ◌≡◌, ◌<◌}
use Rattle.layout.specs.Valid.{control_good, count_good}
use Rattle.timer.specs.declared.Timer.{Timer}
use Rattle.timer.specs.declared.Timers.{Timers}
use Rattle.word.specs.Word.{wrap}

-- what holds of both timers
abbrev pub Both : (Timer → Type 0) → Timers → Type 0
Both P ts = P ts.timer0 × P ts.timer1

-- a timer's count, period and control, as words, are within their values
pub record GoodTimer (t : Timer) : Type 0 where
  pub count : count_good (wrap t.count) (wrap t.period) ≡ true
  pub control : control_good t.control ≡ true

-- the numbers of a timer fit their words
pub record TimerFits (t : Timer) : Type 0 where
  pub count : t.count < 65536
  pub period : t.period < 65536
  pub control : t.control < 65536
