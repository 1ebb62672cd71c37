-- What the winder promises. Document 02, 5/14.
-- Assumes nothing.
use Rattle.std.specs.Prelude.{false, List, ◌≡◌, suc, zero, ℕ, ◌%◌, ◌*◌, ◌+◌, ◌-◌, ◌/◌, ◌<◌, ◌≤◌, drop, get_or, length, Err, Ok}
use mir.Val.{bool_byte}
use Rattle.barrel.specs.Barrel.{reached, taken_at, wound_by}
use Rattle.call.specs.Call.{Answer, Called, called, given_by}
use Rattle.call.specs.Valid.{machine_valid}
use Rattle.endian.specs.Bytes.{byte_from, word_from}
use Rattle.image.specs.Decode.{state_from}
use Rattle.layout.specs.Layout.{input_at}
use Rattle.machine.specs.Run.{through_of}
use Rattle.machine.specs.Step.{step_of}
use Rattle.machine.specs.declared.State.{State}
use Rattle.refusal.specs.declared.Cause.TheVariants.{WinderSetting}
use Rattle.refusal.specs.declared.Refusal.{Refusal}
use Rattle.roundtrip.specs.Statement.{Bytes}
use Rattle.winder.specs.Call.{Lent, lent, settings_good, wind_call, wind_valid}
use Rattle.winder.specs.Simulation.{Simulated, Winder, standings, start_of, tick_of, ticks_of, winder_of}
use Rattle.winder.specs.declared.Settings.{Settings}
use Rattle.winder.specs.declared.Stage.{Stage}

-- ---- notches wound and taken

module _ (w : Winder) where
  -- in the next tick
  abbrev pub winds_next : Stage → List ℕ → ℕ
  winds_next at m = wound_by (through_of w.steps at.state m).state.ports.output

  abbrev pub takes_next : Stage → List ℕ → ℕ
  takes_next at m = taken_at w.rundown (at.tick + 1) (at.standing + winds_next at m)

  -- in so many ticks
  unfoldable pub wound : ℕ → Stage → List ℕ → ℕ
  wound zero at m = 0
  wound (suc n) at m = let x : Simulated = tick_of w at m in winds_next at m + wound n x.stage x.memory

  unfoldable pub taken : ℕ → Stage → List ℕ → ℕ
  taken zero at m = 0
  taken (suc n) at m = let x : Simulated = tick_of w at m in takes_next at m + taken n x.stage x.memory

-- `balance`: "Notches wound less notches taken equal the change in standing notches over any number of ticks": the n ticks behind the first i
-- ones, from any stage. Written as sums, since a difference of numbers ends at 0.
abbrev pub Balance : Type 0
Balance =
    (w : Winder) (i n : ℕ) (at : Stage) (m : List ℕ) → let x : Simulated = ticks_of w i at m in
    (ticks_of w (i + n) at m).stage.standing + taken w n x.stage x.memory
    ≡ x.stage.standing + wound w n x.stage x.memory

-- ---- what stands after a tick

-- `stands`: place k, from 0, has what stands after tick k + 1, and that is at most k + 1
pub record Stands (w : Winder) (n : ℕ) (st : State) (m : List ℕ) (k : ℕ) : Type 0 where
  pub left : get_or (standings w n (start_of st) m) k 0 ≡ (ticks_of w (k + 1) (start_of st) m).stage.standing
  pub small : get_or (standings w n (start_of st) m) k 0 ≤ k + 1

abbrev pub EachStands : Type 0
EachStands = (w : Winder) (n : ℕ) (st : State) (m : List ℕ) (k : ℕ) → k < n → Stands w n st m k

-- `first`: "the first tick, counted from 1, with more standing than the label times the notches per turn, or 0 for none", of n ticks, `standing k`
-- being what stands after tick k + 1
pub record First (limit n : ℕ) (standing : ℕ → ℕ) (over : ℕ) : Type 0 where
  -- 0 exactly if no tick is over
  pub none : over ≡ 0 → (k : ℕ) → k < n → standing k ≤ limit
  pub none_is_zero : ((k : ℕ) → k < n → standing k ≤ limit) → over ≡ 0
  -- else it is one of the ticks, it is over, and no earlier one is
  pub some : (over ≡ 0 → ⊥) → (1 ≤ over) × (over ≤ n) × (limit < standing (over - 1))
  pub before : (k : ℕ) → k + 1 < over → standing k ≤ limit

abbrev pub FirstOver : Type 0
FirstOver =
    (w : Winder) (n : ℕ) (st : State) (m : List ℕ)
    → First (w.turns * w.notches) n (λ k. get_or (standings w n (start_of st) m) k 0) (ticks_of w n (start_of st) m).stage.over

-- ---- the input byte

-- `input_first`: "for the first tick it is clear"
abbrev pub InputFirst : Type 0
InputFirst = (st : State) → (start_of st).state.ports.input % 2 ≡ 0

-- `input_rule`: "Input bit 0 is set for the next tick exactly when the whole turns standing have reached the label"; "Input bits 1-7 are kept"
pub record InputRule (w : Winder) (st : State) (m : List ℕ) (n : ℕ) : Type 0 where
  -- after tick n + 1
  pub set :
      let at : Stage = (ticks_of w (suc n) (start_of st) m).stage in
      at.state.ports.input % 2 ≡ bool_byte (reached w.turns w.notches at.standing)
  -- after n ticks
  pub kept : (ticks_of w n (start_of st) m).stage.state.ports.input / 2 ≡ st.ports.input / 2

abbrev pub InputRules : Type 0
InputRules = (w : Winder) (st : State) (m : List ℕ) (n : ℕ) → InputRule w st m n

-- `input_still`: no step changes the input byte
abbrev pub InputStill : Type 0
InputStill = (st : State) (m : List ℕ) → (step_of st m).state.ports.input ≡ st.ports.input

-- ---- the call

-- the notches that stand after so many ticks, by the places; "The barrel starts with no notch standing"
abbrev pub standing_in : List ℕ → ℕ → ℕ
standing_in places zero = 0
standing_in places (suc k) = word_from places (2 * k)

-- `call_left`: of a simulation that is not refused, on bytes
pub record CallLeft (s : Settings) (m b places : List ℕ) (c : Called Answer Lent) : Type 0 where
  -- a place holds, upper byte first, what stands after its tick
  pub place :
      (k : ℕ) → k < s.ticks
      → word_from c.lent.places (2 * k) ≡ (ticks_of (winder_of s) (k + 1) (start_of (state_from b)) m).stage.standing
  -- at most the number of the tick
  pub small : (k : ℕ) → k < s.ticks → word_from c.lent.places (2 * k) ≤ k + 1
  -- the answer is the first tick over, by the places
  pub answer : c.answer ≡ Ok (given_by c.answer)
  pub first : First (s.turns * s.notches) s.ticks (λ k. word_from c.lent.places (2 * k)) (given_by c.answer)
  -- the balance, by the places
  pub balance :
      (i n : ℕ) → i + n ≤ s.ticks → let x : Simulated = ticks_of (winder_of s) i (start_of (state_from b)) m in
      standing_in c.lent.places (i + n) + taken (winder_of s) n x.stage x.memory
      ≡ standing_in c.lent.places i + wound (winder_of s) n x.stage x.memory
  -- "so are result places behind the ticks", and a last byte that is no place
  pub behind : drop (2 * s.ticks) c.lent.places ≡ drop (2 * s.ticks) places
  pub long : length c.lent.places ≡ length places
  -- memory and image are bytes, and pass the tests of the next call
  pub memory_bytes : Bytes c.lent.memory
  pub image_bytes : Bytes c.lent.image
  pub again : machine_valid (length c.lent.memory) c.lent.image ≡ Ok tt
  -- "The image after the last tick has the bit by the same rule"; "Input bits 1-7 are kept"
  pub lower :
      byte_from c.lent.image input_at % 2 ≡ bool_byte (reached s.turns s.notches (standing_in c.lent.places s.ticks))
  pub upper : byte_from c.lent.image input_at / 2 ≡ byte_from b input_at / 2

abbrev pub CallsLeft : Type 0
CallsLeft =
    (s : Settings) (m b places : List ℕ) → Bytes m → Bytes b → wind_valid (length m) b s (length places) ≡ Ok tt
    → CallLeft s m b places (wind_call m b s places)

-- `refused_nine`: "refused with 9 before anything runs and after the old checks", with P=0 and every lent buffer as it was; `refused_before`: the
-- old checks refuse first, whatever the settings are
abbrev pub RefusedNine : Type 0
RefusedNine =
    (s : Settings) (m b places : List ℕ) → machine_valid (length m) b ≡ Ok tt → settings_good s (length places) ≡ false
    → wind_call m b s places ≡ called (Err (record { cause = WinderSetting; place = 0 })) (lent m b places)

abbrev pub RefusedBefore : Type 0
RefusedBefore =
    (s : Settings) (m b places : List ℕ) (r : Refusal) → machine_valid (length m) b ≡ Err r
    → wind_call m b s places ≡ called (Err r) (lent m b places)
