-- Laws of loads: those that a window which moves on by one record uses.
-- Assumes nothing.
use Rattle.std.specs.Prelude.{Bool, false, true, List, [], ◌++◌, ◌∷◌, ◌≡◌, max, suc, zero, ℕ, ◌+◌, ◌<◌, ◌≤◌, eqb, drop, get_or, length, take}
use Rattle.std.proofs.Common.{add-one, arith, length-drop, length-take, drop-cons, get_or-drop, take-suc}
use mir.Val.{bool_byte}
use Rattle.load.specs.Load.{busiest_of, largest_to, last_start, load_at, load_of, on_of}

-- ---- a record more

-- at the end
load_more : (ticks : List ℕ) (tick : ℕ) → load_of (ticks ++ (tick ∷ [])) ≡ load_of ticks + on_of tick
unfolding load_of
load_more [] tick = omega arith
load_more (t ∷ ts) tick = omega (arith, load_more ts tick)

-- of the first ones
pub load_first : (records : List ℕ) (i : ℕ) → i < length records → load_of (take (i + 1) records) ≡ load_of (take i records) + on_of (get_or records i 0)
load_first records i h = rw (add-one, take-suc records i 0 h, load_more)

-- a window moved on by one record: one enters, one leaves
pub load_moves :
    (records : List ℕ) (width s : ℕ) → s + width < length records
    → load_at records width (s + 1) + on_of (get_or records s 0) ≡ load_at records width s + on_of (get_or records (s + width) 0)
unfolding load_of
load_moves records width s h =
    let longer : load_of (take (suc width) (drop s records)) ≡ load_at records width s + on_of (get_or records (s + width) 0) =
    rw (take-suc (drop s records) width 0 (simp length-drop (omega arith)), load_more, get_or-drop) in
    let other : load_of (take (suc width) (drop s records)) ≡ on_of (get_or records s 0) + load_at records width (s + 1) =
    rw (drop-cons records s 0 (omega arith), add-one) in
    omega arith

-- ---- bounds

pub on_small : (tick : ℕ) → on_of tick ≤ 1
on_small tick = by (eqb tick 1)
  where
    by : (t : Bool) → bool_byte t ≤ 1
    by true = omega arith
    by false = omega arith

-- a load is at most the number of the records
pub load_small : (ticks : List ℕ) → load_of ticks ≤ length ticks
unfolding load_of
load_small [] = omega arith
load_small (t ∷ ts) = omega (arith, on_small t, load_small ts)

-- and a window's at most its width
pub load_at_small : (records : List ℕ) (width s : ℕ) → load_at records width s ≤ width
load_at_small records width s = omega (arith, load_small (take width (drop s records)), length-take width (drop s records))

-- ---- the largest

-- of one more
pub largest_more : (f : ℕ → ℕ) (k : ℕ) → largest_to f (k + 1) ≡ max (largest_to f k) (f (k + 1))
unfolding largest_to
largest_more f k = rw add-one

largest_small : (f : ℕ → ℕ) (bound : ℕ) → ((s : ℕ) → f s ≤ bound) → (last : ℕ) → largest_to f last ≤ bound
unfolding largest_to
largest_small f bound h zero = h 0
largest_small f bound h (suc k) = omega (arith, largest_small f bound h k, h (suc k))

-- the busiest window's load is at most the width
pub busiest_small : (records : List ℕ) (width : ℕ) → busiest_of records width ≤ width
busiest_small records width = largest_small (load_at records width) width (load_at_small records width) (last_start records width)
