-- Loads worked out: runs of records, and what is on in their busiest windows.
-- Assumes nothing.
use Rattle.std.specs.Prelude.{List, [], ◌∷◌, refl, ◌≡◌, ℕ}
use Rattle.load.specs.Load.{busiest_of, largest_to, load_of}

-- on, off, on, on, off by a 3, off by 255, off
abbrev ticks : List ℕ
ticks = 1 ∷ 0 ∷ 1 ∷ 1 ∷ 3 ∷ 255 ∷ 0 ∷ []

pub record WorkedLoads : Type 0 where
  -- two in a row, in the middle
  pub two : busiest_of ticks 2 ≡ 2
  -- no three in a row are on, and the 3 is off
  pub three : busiest_of ticks 3 ≡ 2
  -- the first four
  pub four : busiest_of ticks 4 ≡ 3
  -- one record
  pub one : busiest_of ticks 1 ≡ 1
  -- as long as the run; a run shorter than the width
  pub seven : busiest_of ticks 7 ≡ 3
  pub longer : busiest_of ticks 4096 ≡ 3
  -- only the last window has it
  pub last : busiest_of (0 ∷ 1 ∷ 0 ∷ 1 ∷ 1 ∷ []) 2 ≡ 2
  -- every other value is off
  pub off : busiest_of (0 ∷ 2 ∷ 3 ∷ 129 ∷ 255 ∷ []) 3 ≡ 0
  pub none : busiest_of [] 60 ≡ 0

pub worked_loads : WorkedLoads
unfolding largest_to load_of
worked_loads =
    record {
      two = refl;
      three = refl;
      four = refl;
      one = refl;
      seven = refl;
      longer = refl;
      last = refl;
      off = refl;
      none = refl;
    }
