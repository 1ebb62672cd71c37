-- What is promised of the busiest window's load. Document 02, 6/14.
-- Assumes nothing.
use Rattle.std.specs.Prelude.{Err, List, Ok, [], ◌++◌, ◌≡◌, ℕ, ◌*◌, ◌<◌, ◌≤◌, length}
use Rattle.call.specs.Call.{called}
use Rattle.refusal.specs.Laws.{Range}
use Rattle.refusal.specs.declared.Cause.TheVariants.{WindowWidth}
use Rattle.load.specs.Call.{busiest_call}
use Rattle.load.specs.Load.{busiest_of, load_of}

-- ---- the figure

-- a window, by the request's words and with nothing counted: "that many consecutive records", which some records stand before and some behind;
-- "A run shorter than the width counts as a single window"
pub data Window (records : List ℕ) (width : ℕ) (window : List ℕ) : Type 0 where
  consecutive : (before behind : List ℕ) → records ≡ before ++ (window ++ behind) → length window ≡ width → Window records width window
  single : length records < width → window ≡ records → Window records width window

-- the busiest window's records on
pub record Busiest (records : List ℕ) (width figure : ℕ) : Type 0 where
  -- "a figure that no window of that many consecutive records exceeds in records on"
  pub most : (window : List ℕ) → Window records width window → load_of window ≤ figure
  -- and that some window has
  pub met : (window : List ℕ) × (Window records width window) × (load_of window ≡ figure)

-- `is_busiest`: what the definition gives is the busiest window's; `only_busiest`: nothing else is
abbrev pub IsBusiest : Type 0
IsBusiest = (records : List ℕ) (width : ℕ) → Busiest records width (busiest_of records width)

abbrev pub OnlyBusiest : Type 0
OnlyBusiest = (records : List ℕ) (width figure : ℕ) → Busiest records width figure → figure ≡ busiest_of records width

-- `not_twice`: "never over twice the busiest window's"
abbrev pub NotTwice : Type 0
NotTwice = (records : List ℕ) (width figure : ℕ) → Busiest records width figure → busiest_of records width ≤ 2 * figure

-- `one_window`: "A run shorter than the width counts as a single window", and so does one as long as the width
abbrev pub OneWindow : Type 0
OneWindow = (records : List ℕ) (width : ℕ) → length records ≤ width → busiest_of records width ≡ load_of records

-- `empty_run`: "an empty run gives 0"
abbrev pub EmptyRun : Type 0
EmptyRun = (width : ℕ) → busiest_of [] width ≡ 0

-- ---- the call

-- `call_gives`: with a width from 1 to 4,096 the busiest window's records on, whatever the records are; they are kept
abbrev pub CallGives : Type 0
CallGives =
    (records : List ℕ) (width : ℕ) → Range 1 4096 width → busiest_call records width ≡ called (Ok (busiest_of records width)) records

-- `refused_ten`: "A width of 0 or above 4,096 is refused with 10", with P=0 and the records as they were
abbrev pub RefusedTen : Type 0
RefusedTen =
    (records : List ℕ) (width : ℕ) → (Range 1 4096 width → ⊥)
    → busiest_call records width ≡ called (Err (record { cause = WindowWidth; place = 0 })) records
