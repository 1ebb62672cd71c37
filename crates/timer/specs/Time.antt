-- Milliseconds that pass. Document 02, 2/14: "Card command 08 with a two-byte number of milliseconds advances each started timer; on reaching
-- its period the count returns to 0, fired is set, and line 0 or 1 is raised if bit 15 is set. Period 0 never fires and keeps count 0."
-- Assumes nothing.
use Rattle.std.specs.Prelude.{Bool, cond, false, true, ◌&&◌, ◌||◌, suc, zero, ℕ, ◌+◌, leb, ltb}
use Rattle.std.specs.Int.Bits.{bit_or}
use Rattle.word.specs.Word.{is_set}
use Rattle.timer.specs.declared.Elapsed.{Elapsed}
use Rattle.timer.specs.declared.Passed.{Passed}
use Rattle.timer.specs.declared.Timer.{Timer}
use Rattle.timer.specs.declared.Timers.{Timers}

-- ---- one timer

-- control: "bit 15 interrupt, bit 0 start"
abbrev pub started : Timer → Bool
started t = is_set 0 t.control

abbrev pub interrupts : Timer → Bool
interrupts t = is_set 15 t.control

-- milliseconds count: "each started timer"; "Period 0 never fires and keeps count 0"
unfoldable pub counts : Timer → Bool
counts t = started t && ltb 0 t.period

-- a millisecond fires it: "on reaching its period", or where the count is there already, as in no good image
unfoldable pub fires : Timer → Bool
fires t = counts t && leb t.period (t.count + 1)

-- "line 0 or 1 is raised if bit 15 is set"
abbrev pub raises : Timer → Bool
raises t = fires t && interrupts t

abbrev pub counted : Timer → ℕ → Bool → Timer
counted t count fired = record { count = count; period = t.period; control = t.control; fired = fired }

-- the timer after a millisecond: "the count returns to 0, fired is set"
unfoldable pub ticked : Timer → Timer
ticked t = cond (fires t) (counted t 0 true) (cond (counts t) (counted t (t.count + 1) t.fired) t)

-- after so many milliseconds, one after the other
unfoldable pub elapsed : ℕ → Timer → Elapsed
elapsed zero t = record { timer = t; raised = false }
elapsed (suc n) t = record { timer = (elapsed n (ticked t)).timer; raised = raises t || (elapsed n (ticked t)).raised }

-- ---- both

-- lines as bits: Timer0 raises line 0, Timer1 line 1
unfoldable pub lines_of : Bool → Bool → ℕ
lines_of raised0 raised1 = bit_or (cond raised0 1 0) (cond raised1 2 0)

-- the timers after a millisecond, and the lines that it raises
abbrev pub timers_ticked : Timers → Timers
timers_ticked ts = record { timer0 = ticked ts.timer0; timer1 = ticked ts.timer1 }

abbrev pub lines_raised : Timers → ℕ
lines_raised ts = lines_of (raises ts.timer0) (raises ts.timer1)

-- each after so many milliseconds, and the lines that were raised in them
abbrev pub passed_of : ℕ → Timers → Passed
passed_of n ts =
    let first : Elapsed = elapsed n ts.timer0 in
    let second : Elapsed = elapsed n ts.timer1 in
    record { timers = record { timer0 = first.timer; timer1 = second.timer }; lines = lines_of first.raised second.raised }
