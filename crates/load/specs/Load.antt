-- The load of a motor over stretches of a run. Document 02, 6/14, "Busiest stretch of the motor".
-- Assumes nothing.
use Rattle.std.specs.Prelude.{List, [], ◌∷◌, max, suc, zero, ℕ, ◌+◌, ◌-◌, eqb, drop, length, take}
use mir.Val.{bool_byte}

-- "tick records, each a byte, 1 if the motor was on (any other value counts as off)"
abbrev pub on_of : ℕ → ℕ
on_of tick = bool_byte (eqb tick 1)

-- a load, which is the paper's own word: "records on"
unfoldable pub load_of : List ℕ → ℕ
load_of [] = 0
load_of (tick ∷ ticks) = on_of tick + load_of ticks

-- "window of that many consecutive records": the one that begins at this record, counted from 0
abbrev pub window_at : List ℕ → ℕ → ℕ → List ℕ
window_at records width start = take width (drop start records)

-- where the last window begins: so that its end is the run's; at 0 where "A run shorter than the width counts as a single window"
abbrev pub last_start : List ℕ → ℕ → ℕ
last_start records width = length records - width

-- the load of the window that begins at this record
abbrev pub load_at : List ℕ → ℕ → ℕ → ℕ
load_at records width start = load_of (window_at records width start)

-- the largest of what is given for 0 to `last`
unfoldable pub largest_to : (ℕ → ℕ) → ℕ → ℕ
largest_to f zero = f 0
largest_to f (suc k) = max (largest_to f k) (f (suc k))

-- "the busiest window's": of all windows, the most records on
abbrev pub busiest_of : List ℕ → ℕ → ℕ
busiest_of records width = largest_to (load_at records width) (last_start records width)
