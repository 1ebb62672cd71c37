-- Time passes in a card only by command 08.
-- Assumes nothing.
use Rattle.std.specs.Prelude.{Bool, List, [], ◌∷◌, ℕ}
use Rattle.card.specs.Effect.{effect_of, execute_of}
use Rattle.command.specs.declared.Command.{Command}
use Rattle.command.specs.declared.Command.TheVariants.{Byte, Entry, Flag, Lines, Mmu, Register, Run, Time}
use Rattle.machine.specs.declared.State.{State}
use Rattle.times.specs.Statement.{QuietRun, Still, timer_of}

-- commands without 08, none of whose runs sets the period of a timer
abbrev pub QuietCommand : Bool → Command → State → List ℕ → Type 0
QuietCommand k (Run n) st m = QuietRun k n st m
QuietCommand k (Time ms) st m = ⊥
QuietCommand k (Byte a v) st m = Unit {0}
QuietCommand k (Register n v) st m = Unit {0}
QuietCommand k (Lines lines v) st m = Unit {0}
QuietCommand k (Entry e bits) st m = Unit {0}
QuietCommand k (Mmu on) st m = Unit {0}
QuietCommand k (Flag w) st m = Unit {0}

unfoldable pub QuietCard : Bool → List Command → State → List ℕ → Type 0
QuietCard k [] st m = Unit {0}
QuietCard k (x ∷ xs) st m = QuietCommand k x st m × QuietCard k xs (effect_of x st m).state (effect_of x st m).memory

-- `card_still`: in such commands no time passes for it
abbrev pub CardStill : Type 0
CardStill =
    (k : Bool) (xs : List Command) (st : State) (m : List ℕ) → QuietCard k xs st m
    → Still (timer_of k st.timers) (timer_of k (execute_of xs st m).state.timers)
