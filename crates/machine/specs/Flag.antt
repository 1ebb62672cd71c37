-- FLAG in the state.
-- Assumes nothing.
use Rattle.std.specs.Prelude.{ℕ}
use Rattle.status.specs.Flag.{flags_from, word_of}
use Rattle.machine.specs.State.{with_flags}
use Rattle.machine.specs.declared.State.{State}

-- FLAG as a word
abbrev pub flag_of : State → ℕ
flag_of st = word_of st.flags

-- FLAG loaded from a word
abbrev pub with_flag : State → ℕ → State
with_flag st w = with_flags st (flags_from w)
