-- The pending lines, bit n for interrupt n. Document 01, "Faults in order": "if E=1 and a line is pending, the lowest is cleared and entered as a
-- step of its own".
-- Assumes nothing.
use Rattle.std.specs.Prelude.{Bool, not, ◌&&◌, ℕ, ◌-◌, ◌^◌, eqb}
use Rattle.std.specs.Int.Count.{count_trailing_zeros}

-- "if E=1 and a line is pending"
unfoldable pub interrupt_in : Bool → ℕ → Bool
interrupt_in e pending = e && not (eqb pending 0)

-- "the lowest": the number of zeros below the lowest 1
abbrev pub lowest_line : ℕ → ℕ
lowest_line lines = count_trailing_zeros 16 lines

-- a line is cleared as it is entered
abbrev pub without : ℕ → ℕ → ℕ
without lines line = lines - 2 ^ line
