-- States and their images: which states have a good image, and which fit the fields of one.
-- Assumes nothing.
use Rattle.std.specs.Prelude.{true, List, ◌≡◌, ℕ, ◌/◌, ◌%◌, ◌<◌, get_or, length}
use Rattle.image.specs.Decode.{state_from}
use Rattle.image.specs.Image.{image_of}
use Rattle.layout.specs.Layout.{image_size}
use Rattle.layout.specs.Valid.{good_image}
use Rattle.machine.specs.Run.{run_of, through_of}
use Rattle.machine.specs.Step.{step_of}
use Rattle.machine.specs.declared.Event.{Event}
use Rattle.machine.specs.declared.Event.TheVariants as event
use Rattle.machine.specs.declared.State.{State}
use Rattle.roundtrip.specs.Timers.{Both, GoodTimer, TimerFits}

-- what holds of each element of a list, and of 0, which stands for the elements past its end
abbrev pub Each : (ℕ → Type 0) → List ℕ → Type 0
Each P l = (k : ℕ) → P (get_or l k 0)

-- a byte, a word and a TLB entry, of three bytes
abbrev pub Byte : ℕ → Type 0
Byte v = v < 256

abbrev pub Word : ℕ → Type 0
Word v = v < 65536

abbrev pub EntryFits : ℕ → Type 0
EntryFits e = e < 16777216

-- a list of bytes
abbrev pub Bytes : List ℕ → Type 0
Bytes m = Each Byte m

-- bits 14 and 13 of a TLB entry are zero
abbrev pub Zeros : ℕ → Type 0
Zeros e = e / 8192 % 4 ≡ 0

-- What can make the image of a state bad. Whether its numbers fit their widths has no part in that.
pub record GoodState (st : State) : Type 0 where
  pub thirteen : length st.regs ≡ 13
  pub lines : st.pending < 1024
  pub causes : st.fault.cause < 4
  pub eight : length st.tlb ≡ 8
  pub zeros : Each Zeros st.tlb
  pub timers : Both GoodTimer st.timers

-- Every number fits its field, but for those of which `GoodState` speaks.
pub record Ranged (st : State) : Type 0 where
  pub words : Each Word st.regs
  pub system : Word st.ssp
  pub user : Word st.usp
  pub next : Word st.pc
  pub read : Byte st.ports.input
  pub written : Byte st.ports.output
  pub refused : Word st.fault.violation
  pub page : Byte st.fault.missed
  pub entries : Each EntryFits st.tlb
  pub clocks : Both TimerFits st.timers

-- A good and ranged state.
pub record Sound (st : State) : Type 0 where
  pub good : GoodState st
  pub ranged : Ranged st

-- A sound state beside a memory of bytes of this length.
pub record SoundMachine (long : ℕ) (st : State) (m : List ℕ) : Type 0 where
  pub sound : Sound st
  pub bytes : Bytes m
  pub sized : length m ≡ long

-- what a step tells of an entry of the kernel: the number, PC and FLAG
abbrev pub EventFits : Event → Type 0
EventFits (event.Executed cost) = Unit {0}
EventFits (event.Entered number pc flag) = Byte number × Word pc × Byte flag
EventFits event.Halted = Unit {0}
EventFits event.Lost = Unit {0}

-- ---- the theorems

-- `encoded`: the state of a good image has that image
abbrev pub Encoded : Type 0
Encoded = (b : List ℕ) → length b ≡ image_size → Bytes b → good_image b ≡ true → image_of (state_from b) ≡ b

-- `decoded`: the image of a good and ranged state decodes to the state itself
abbrev pub Decoded : Type 0
Decoded = (st : State) → GoodState st → Ranged st → state_from (image_of st) ≡ st

-- `good_encodes`: the image of a good state is good
abbrev pub GoodEncodes : Type 0
GoodEncodes = (st : State) → GoodState st → good_image (image_of st) ≡ true

-- `run_good`: a run from a good state leads to a good one
abbrev pub RunGood : Type 0
RunGood = (n : ℕ) (st : State) (m : List ℕ) → GoodState st → GoodState (run_of n st m).state

-- `run_ranged`: from a good and ranged state, and a memory of bytes, it leads to a ranged one and a memory of bytes
abbrev pub RunRanged : Type 0
RunRanged =
    (n : ℕ) (st : State) (m : List ℕ) → GoodState st → Ranged st → Bytes m → Ranged (run_of n st m).state × Bytes (run_of n st m).memory

-- `run_sound`, `through_sound`: a run, also one that goes on through kernel entries, leads from a sound machine to a sound one of that length
abbrev pub RunSound : Type 0
RunSound =
    (long n : ℕ) (st : State) (m : List ℕ) → SoundMachine long st m → SoundMachine long (run_of n st m).state (run_of n st m).memory

abbrev pub ThroughSound : Type 0
ThroughSound =
    (long n : ℕ) (st : State) (m : List ℕ) → SoundMachine long st m
    → SoundMachine long (through_of n st m).state (through_of n st m).memory

-- `run_image`: from the state of a good image it leads to a state whose image is good
abbrev pub RunImage : Type 0
RunImage = (n : ℕ) (b m : List ℕ) → Bytes b → good_image b ≡ true → good_image (image_of (run_of n (state_from b) m).state) ≡ true

-- `step_event`: the numbers that a step from a good and ranged state tells fit the report
abbrev pub StepEvent : Type 0
StepEvent = (st : State) (m : List ℕ) → GoodState st → Ranged st → Bytes m → EventFits (step_of st m).event
