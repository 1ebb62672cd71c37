-- What the commands 02, 03 and 08 of a card do to the state. Document 01, "Bench card and its listing"; document 02, 2/14.
-- Assumes nothing.
use Rattle.std.specs.Prelude.{cond, suc, zero, ℕ, eqb, ltb, set}
use Rattle.std.specs.Int.Bits.{bit_or}
use Rattle.machine.specs.State.{with_input, with_pc, with_pending, with_regs, with_stack, with_timers}
use Rattle.machine.specs.declared.State.{State}
use Rattle.timer.specs.Time.{lines_raised, timers_ticked}

-- "02 register 0-15 (1; 13 is SSP), value(2)": 13 is SSP whatever P is, 14 USP, 15 PC
unfoldable pub with_register : State → ℕ → ℕ → State
with_register st n v =
    cond (ltb n 13) (with_regs st (set st.regs n v))
    (cond (eqb n 13) (with_stack st v st.usp)
    (cond (eqb n 14) (with_stack st st.ssp v)
    (with_pc st v)))

-- "03 lines(2), input byte(1), lines added to pending": a line that is pending already stays so
abbrev pub with_lines : State → ℕ → ℕ → State
with_lines st lines byte = with_input (with_pending st (bit_or st.pending lines)) byte

-- a millisecond of both timers: "line 0 or 1 is raised"
abbrev pub after_millisecond : State → State
after_millisecond st = with_timers (with_pending st (bit_or st.pending (lines_raised st.timers))) (timers_ticked st.timers)

-- "08 ... milliseconds": one after the other
unfoldable pub after_time : ℕ → State → State
after_time zero st = st
after_time (suc n) st = after_time n (after_millisecond st)
