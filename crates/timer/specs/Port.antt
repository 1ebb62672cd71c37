-- The ports of the timers. Document 02, 2/14: "Ports 00h and 04h read the count and set the period, which zeroes the count; 02h and 06h read
-- fired in bit 15, clearing it, and set control (bit 15 interrupt, bit 0 start, others stored as 0)."
-- Assumes nothing.
use Rattle.std.specs.Prelude.{cond, false, ℕ, ◌%◌, ◌*◌, ◌+◌, ◌/◌, eqb}
use Rattle.timer.specs.declared.Timer.{Timer}
use Rattle.timer.specs.declared.Timers.{Timers}

-- ---- one timer

-- "read fired in bit 15"
abbrev pub fired_word : Timer → ℕ
fired_word t = cond t.fired 0x8000 0

-- "clearing it"
abbrev pub fired_cleared : Timer → Timer
fired_cleared t = record { count = t.count; period = t.period; control = t.control; fired = false }

-- "set the period, which zeroes the count"; fired stays
abbrev pub period_set : Timer → ℕ → Timer
period_set t v = record { count = 0; period = v; control = t.control; fired = t.fired }

-- "set control (bit 15 interrupt, bit 0 start, others stored as 0)"; the count and fired stay
abbrev pub control_stored : ℕ → ℕ
control_stored v = v / 32768 * 32768 + v % 2

abbrev pub control_set : Timer → ℕ → Timer
control_set t v = record { count = t.count; period = t.period; control = control_stored v; fired = t.fired }

-- A timer has two ports: the first, and the one 2 above. Another port leaves it, and gives what it gives elsewhere.
abbrev pub control_port : ℕ → ℕ
control_port first = first + 2

unfoldable pub value_at : ℕ → Timer → ℕ → ℕ → ℕ
value_at first t elsewhere port = cond (eqb port first) t.count (cond (eqb port (control_port first)) (fired_word t) elsewhere)

unfoldable pub after_in_at : ℕ → Timer → ℕ → Timer
after_in_at first t port = cond (eqb port (control_port first)) (fired_cleared t) t

unfoldable pub after_out_at : ℕ → Timer → ℕ → ℕ → Timer
after_out_at first t port v = cond (eqb port first) (period_set t v) (cond (eqb port (control_port first)) (control_set t v) t)

-- ---- both

-- Timer0 has 00h and 02h, Timer1 04h and 06h
abbrev pub timer0_port : ℕ
timer0_port = 0x00

abbrev pub timer1_port : ℕ
timer1_port = 0x04

-- what IN gives
abbrev pub timers_value : Timers → ℕ → ℕ → ℕ
timers_value ts elsewhere port = value_at timer0_port ts.timer0 (value_at timer1_port ts.timer1 elsewhere port) port

-- the timers after IN
abbrev pub timers_after_in : Timers → ℕ → Timers
timers_after_in ts port = record { timer0 = after_in_at timer0_port ts.timer0 port; timer1 = after_in_at timer1_port ts.timer1 port }

-- the timers after OUT
abbrev pub timers_after_out : Timers → ℕ → ℕ → Timers
timers_after_out ts port v =
    record { timer0 = after_out_at timer0_port ts.timer0 port v; timer1 = after_out_at timer1_port ts.timer1 port v }
