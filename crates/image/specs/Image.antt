-- The image of a state, in the order of `Layout`.
-- Assumes nothing.
use Rattle.std.specs.Prelude.{List, [], ◌++◌, ◌∷◌, ℕ}
use mir.Val.{bool_byte}
use Rattle.machine.specs.Answers.{condition_number}
use Rattle.machine.specs.Flag.{flag_of}
use Rattle.machine.specs.declared.State.{State}
use Rattle.endian.specs.Bytes.{word_bytes}
use Rattle.layout.specs.Entries.{entry_bytes}
use Rattle.timer.specs.declared.Timer.{Timer}
use Rattle.timer.specs.declared.Timers.{Timers}

-- the bytes between the registers and the TLB
abbrev pub between_of : State → List ℕ
between_of st =
    word_bytes (st.ssp ∷ st.usp ∷ st.pc ∷ flag_of st ∷ st.pending ∷ [])
    ++ (st.ports.input ∷ st.ports.output ∷ bool_byte st.mmu ∷ condition_number st.condition ∷ [])
    ++ word_bytes (st.fault.violation ∷ [])
    ++ (st.fault.cause ∷ st.fault.missed ∷ [])

-- the bytes of a timer
abbrev pub timer_bytes : Timer → List ℕ
timer_bytes t = word_bytes (t.count ∷ t.period ∷ t.control ∷ bool_byte t.fired ∷ [])

-- Timer0's, then Timer1's
abbrev pub timers_bytes : Timers → List ℕ
timers_bytes ts = timer_bytes ts.timer0 ++ timer_bytes ts.timer1

-- the image of a state
unfoldable pub image_of : State → List ℕ
image_of st = word_bytes st.regs ++ between_of st ++ entry_bytes st.tlb ++ timers_bytes st.timers
