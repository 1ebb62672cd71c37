-- Time passes only by command 08, whatever a program does at the ports: of every run, of every card without 08, and of every simulation of the
-- winder.
-- Assumes nothing.
use Rattle.std.specs.Prelude.{Bool, false, true, List, [], ◌∷◌, ◌⊎◌, ◌≡◌, ℕ, suc, zero, ◌<◌, length, Ok}
use Rattle.card.specs.Call.{card_call, card_valid}
use Rattle.card.specs.Effect.{effect_of, execute_of}
use Rattle.command.specs.Card.{reading_of}
use Rattle.command.specs.declared.Command.{Command}
use Rattle.command.specs.declared.Command.TheVariants.{Run, Time}
use Rattle.image.specs.Decode.{state_from, timer_from}
use Rattle.layout.specs.Layout.{timer0_at, timer1_at}
use Rattle.machine.specs.Run.{run_of, through_of}
use Rattle.machine.specs.declared.State.{State}
use Rattle.roundtrip.specs.Statement.{Bytes}
use Rattle.timer.specs.declared.Timer.{Timer}
use Rattle.winder.specs.Call.{wind_call, wind_valid}
use Rattle.winder.specs.Simulation.{Winder, start_of, tick_of, ticks_of, winder_of}
use Rattle.winder.specs.declared.Settings.{Settings}
use Rattle.winder.specs.declared.Stage.{Stage}
use Rattle.times.specs.Statement.{sets_at, timer_of}

-- no millisecond has passed for a timer; `Set` says that its period was set
pub record NoTime (Set : Type 0) (t t' : Timer) : Type 0 where
  -- set only if it was
  pub fired : t'.fired ≡ true → t.fired ≡ true
  -- what it was, or the period was set and the count is 0
  pub count : ((Set → ⊥) × (t'.count ≡ t.count)) ⊎ (Set × (t'.count ≡ 0))
  -- what it was, unless it was set
  pub period : (Set → ⊥) → t'.period ≡ t.period

-- ---- a run

-- one of so many steps, the first being number 0, sets the period of a timer
pub record SetsWithin (k : Bool) (steps : ℕ) (st : State) (m : List ℕ) : Type 0 where
  pub number : ℕ
  pub within : number < steps
  pub sets : sets_at k number st m ≡ true

-- so one of the steps of a run
abbrev pub RunSets : Bool → ℕ → State → List ℕ → Type 0
RunSets k n st m = SetsWithin k (run_of n st m).steps st m

-- `run_no_time`: in a run no time passes
abbrev pub RunNoTime : Type 0
RunNoTime =
    (k : Bool) (n : ℕ) (st : State) (m : List ℕ)
    → NoTime (RunSets k n st m) (timer_of k st.timers) (timer_of k (run_of n st m).state.timers)

-- ---- a card

-- none of the commands is 08
unfoldable pub WithoutTime : List Command → Type 0
WithoutTime [] = Unit {0}
WithoutTime (x ∷ xs) = ((ms : ℕ) → x ≡ Time ms → ⊥) × WithoutTime xs

-- a command is a run, one of whose steps sets the period of a timer
pub record CommandSets (k : Bool) (x : Command) (st : State) (m : List ℕ) : Type 0 where
  pub allowance : ℕ
  pub run : x ≡ Run allowance
  pub sets : RunSets k allowance st m

-- so one of the commands, from where those before it lead
unfoldable pub CardSets : Bool → List Command → State → List ℕ → Type 0
CardSets k [] st m = ⊥
CardSets k (x ∷ xs) st m = CommandSets k x st m ⊎ CardSets k xs (effect_of x st m).state (effect_of x st m).memory

-- `card_no_time`: in commands without 08 no time passes
abbrev pub CardNoTime : Type 0
CardNoTime =
    (k : Bool) (xs : List Command) (st : State) (m : List ℕ) → WithoutTime xs
    → NoTime (CardSets k xs st m) (timer_of k st.timers) (timer_of k (execute_of xs st m).state.timers)

-- ---- a card's call

-- where a timer's four words begin in an image: it has the bytes 68 to 75 or 76 to 83
abbrev pub timer_at : Bool → ℕ
timer_at false = timer0_at
timer_at true = timer1_at

-- a call is not refused, and one of its runs sets the period of a timer
abbrev pub CallSets : Bool → List ℕ → List ℕ → List ℕ → List ℕ → Type 0
CallSets k m b card rep =
    (card_valid (length m) b card (length rep) ≡ Ok tt) × CardSets k (reading_of card).commands (state_from b) m

-- `call_no_time`: so by those bytes in a card's call without 08, refused or not
abbrev pub CallNoTime : Type 0
CallNoTime =
    (k : Bool) (m b card rep : List ℕ) → Bytes m → Bytes b → Bytes card → WithoutTime (reading_of card).commands
    → NoTime (CallSets k m b card rep) (timer_from b (timer_at k)) (timer_from (card_call m b card rep).lent.image (timer_at k))

-- ---- a simulation of the winder

-- one of the steps of so many ticks sets the period of a timer
unfoldable pub TicksSet : Bool → Winder → ℕ → Stage → List ℕ → Type 0
TicksSet k w zero at m = ⊥
TicksSet k w (suc n) at m =
    SetsWithin k (through_of w.steps at.state m).steps at.state m
    ⊎ TicksSet k w n (tick_of w at m).stage (tick_of w at m).memory

-- `ticks_no_time`: in ticks no time passes
abbrev pub TicksNoTime : Type 0
TicksNoTime =
    (k : Bool) (w : Winder) (n : ℕ) (at : Stage) (m : List ℕ)
    → NoTime (TicksSet k w n at m) (timer_of k at.state.timers) (timer_of k (ticks_of w n at m).stage.state.timers)

-- a simulation is not refused, and one of its steps sets the period of a timer
abbrev pub WindSets : Bool → List ℕ → List ℕ → Settings → List ℕ → Type 0
WindSets k m b s places =
    (wind_valid (length m) b s (length places) ≡ Ok tt) × TicksSet k (winder_of s) s.ticks (start_of (state_from b)) m

-- `wind_no_time`: so by the timers' bytes in a simulation, refused or not
abbrev pub WindNoTime : Type 0
WindNoTime =
    (k : Bool) (m b : List ℕ) (s : Settings) (places : List ℕ) → Bytes m → Bytes b
    → NoTime (WindSets k m b s places) (timer_from b (timer_at k)) (timer_from (wind_call m b s places).lent.image (timer_at k))
