-- Milliseconds for the state all at once: each timer by itself, and the lines that were raised in them.
-- Assumes nothing.
use Rattle.std.proofs.Common.{◌∙◌}
use Rattle.std.specs.Prelude.{◌≡◌, suc, zero, ℕ}
use Rattle.std.specs.Int.Bits.{bit_or, or_zero_r}
use Rattle.machine.specs.State.{with_pending, with_timers}
use Rattle.machine.specs.declared.State.{State}
use Rattle.timer.specs.Laws.{or_lines}
use Rattle.timer.specs.Time.{elapsed, lines_of, passed_of}
use Rattle.timer.specs.declared.Passed.{Passed}
use Rattle.word.specs.Bits.{or_assoc}
use Rattle.settings.specs.Settings.{after_millisecond, after_time}

-- the state after some milliseconds of its timers
abbrev pub with_passed : State → Passed → State
with_passed st p = with_timers (with_pending st (bit_or st.pending p.lines)) p.timers

pub time_at_once : (n : ℕ) (st : State) → after_time n st ≡ with_passed st (passed_of n st.timers)
unfolding after_time elapsed lines_of
time_at_once zero st = rw (or_zero_r st.pending)
time_at_once (suc n) st =
    time_at_once n (after_millisecond st)
    ∙ rw (or_assoc st.pending (lines_of _ _) (lines_of _ _), or_lines _ _ _ _)
