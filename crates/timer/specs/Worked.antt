-- Worked timers: milliseconds and lines.
-- Assumes nothing.
use Rattle.std.specs.Prelude.{Bool, false, true, ◌≡◌, ℕ}
use mathlib.Core.List.{List, [], map, ◌∷◌}
use Rattle.timer.specs.Time.{counted, elapsed, passed_of}
use Rattle.timer.specs.declared.Elapsed.{Elapsed}
use Rattle.timer.specs.declared.Timer.{Timer}
use Rattle.timer.specs.declared.Timers.{Timers}

-- ---- timers, by their count, period and fired

abbrev pub timer : ℕ → ℕ → ℕ → Bool → Timer
timer control count period fired = record { count = count; period = period; control = control; fired = fired }

-- started, with the interrupt
abbrev pub ringing : ℕ → ℕ → Bool → Timer
ringing = timer 0x8001

-- started, without it
abbrev pub silent : ℕ → ℕ → Bool → Timer
silent = timer 0x0001

-- not started, with the interrupt
abbrev pub stopped : ℕ → ℕ → Bool → Timer
stopped = timer 0x8000

-- ---- milliseconds

-- A row: the milliseconds, the timer before them, and what they leave: the count, fired, and whether the line was raised. Period and control are
-- as before.
pub record Row : Type 0 where
  pub ms : ℕ
  pub before : Timer
  pub count : ℕ
  pub fired : Bool
  pub raised : Bool

abbrev pub row : ℕ → Timer → ℕ → Bool → Bool → Row
row ms before count fired raised = record { ms = ms; before = before; count = count; fired = fired; raised = raised }

abbrev pub after : Row → Elapsed
after r = elapsed r.ms r.before

abbrev pub expected : Row → Elapsed
expected r = record { timer = counted r.before r.count r.fired; raised = r.raised }

unfoldable pub rows : List Row
rows =
    -- a count of 7 and a period of 10: short of the period, to it, and beyond it
    row 2 (ringing 7 10 false) 9 false false
    ∷ row 3 (ringing 7 10 false) 0 true true
    ∷ row 5 (ringing 7 10 false) 2 true true
    -- several periods
    ∷ row 33 (ringing 7 10 false) 0 true true
    ∷ row 65535 (ringing 7 10 false) 2 true true
    -- none
    ∷ row 0 (ringing 9 10 false) 9 false false
    -- fired already: it stays, and a firing raises the line again
    ∷ row 2 (ringing 7 10 true) 9 true false
    ∷ row 5 (ringing 7 10 true) 2 true true
    -- without the interrupt
    ∷ row 5 (silent 7 10 false) 2 true false
    -- not started
    ∷ row 65535 (stopped 7 10 false) 7 false false
    -- period 0
    ∷ row 65535 (ringing 0 0 false) 0 false false
    -- period 1
    ∷ row 1 (ringing 0 1 false) 0 true true
    ∷ row 65535 (ringing 0 1 false) 0 true true
    -- the longest period
    ∷ row 65534 (ringing 0 65535 false) 65534 false false
    ∷ row 65535 (ringing 0 65535 false) 0 true true
    ∷ []

-- ---- both timers

abbrev pub both : Timer → Timer → Timers
both first second = record { timer0 = first; timer1 = second }

abbrev pub lines_after : ℕ → Timers → ℕ
lines_after ms ts = (passed_of ms ts).lines

pub record Worked : Type 0 where
  pub times : map after rows ≡ map expected rows
  -- 3 milliseconds raise the line of Timer0, of Timer1, of both, of none
  pub lines :
      map (lines_after 3)
      (both (ringing 7 10 false) (ringing 6 10 false)
      ∷ both (ringing 6 10 false) (ringing 7 10 false)
      ∷ both (ringing 7 10 false) (ringing 8 10 false)
      ∷ both (silent 7 10 false) (stopped 7 10 false)
      ∷ [])
      ≡ (0x0001 ∷ 0x0002 ∷ 0x0003 ∷ 0x0000 ∷ [])
