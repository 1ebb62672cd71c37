-- What a simulation answers and leaves of what it is lent. Document 02, 5/14.
-- Assumes nothing.
use Rattle.std.specs.Prelude.{Bool, ◌&&◌, List, ◌++◌, ℕ, ◌*◌, ◌/◌, leb, drop, length, Ok}
use Rattle.call.specs.Call.{Answer, Called, called, unless_refused}
use Rattle.call.specs.Valid.{machine_valid}
use Rattle.endian.specs.Bytes.{word_bytes}
use Rattle.image.specs.Decode.{state_from}
use Rattle.image.specs.Image.{image_of}
use Rattle.refusal.specs.Refusal.{Validity, and_then, between, good_if}
use Rattle.refusal.specs.declared.Cause.TheVariants.{WinderSetting}
use Rattle.winder.specs.Simulation.{Simulated, Winder, standings, start_of, ticks_of, winder_of}
use Rattle.winder.specs.declared.Settings.{Settings}

-- what a simulation is lent
pub record Lent : Type 0 where
  pub memory : List ℕ
  pub image : List ℕ
  -- "The result is the standing notches after each tick, two bytes a place"
  pub places : List ℕ

abbrev pub lent : List ℕ → List ℕ → List ℕ → Lent
lent memory image places = record { memory = memory; image = image; places = places }

abbrev pub settings : ℕ → ℕ → ℕ → ℕ → ℕ → Settings
settings turns notches rundown ticks steps =
    record { turns = turns; notches = notches; rundown = rundown; ticks = ticks; steps = steps }

-- "Maximum turns outside 1-999, notches per turn or r outside 1-64, ticks or steps outside 1-65,535, or a result buffer with fewer places
-- than ticks": a place is two bytes
unfoldable pub settings_good : Settings → ℕ → Bool
settings_good s places =
    between 1 999 s.turns
    && (between 1 64 s.notches
    && (between 1 64 s.rundown
    && (between 1 65535 s.ticks
    && (between 1 65535 s.steps
    && leb s.ticks (places / 2)))))

-- "are refused with 9"
unfoldable pub settings_valid : Settings → ℕ → Validity
settings_valid s places = good_if (settings_good s places) WinderSetting

-- "before anything runs and after the old checks": refusals 1, 2, 3 and 9
abbrev pub wind_valid : ℕ → List ℕ → Settings → ℕ → Validity
wind_valid memory b s places = and_then (machine_valid memory b) (settings_valid s places)

-- so many ticks of the machine in image and memory; what stands after each, in front of what the places held: "kept ... so are result places
-- behind the ticks". Given is the first tick over the label, or 0.
abbrev pub simulated_call : Winder → ℕ → List ℕ → List ℕ → List ℕ → Called Answer Lent
simulated_call w ticks m b places =
    let x : Simulated = ticks_of w ticks (start_of (state_from b)) m in
    called (Ok x.stage.over)
    (lent x.memory (image_of x.stage.state) (word_bytes (standings w ticks (start_of (state_from b)) m) ++ drop (2 * ticks) places))

-- a simulation
unfoldable pub wind_call : List ℕ → List ℕ → Settings → List ℕ → Called Answer Lent
wind_call m b s places =
    unless_refused (wind_valid (length m) b s (length places)) (lent m b places) (simulated_call (winder_of s) s.ticks m b places)
