-- The barrel of a winder. Document 02, 5/14: notches that stand on it, what winds one and what takes one, what the input bit tells of it, and
-- when it is over its label.
-- Assumes nothing.
use Rattle.std.specs.Prelude.{Bool, cond, ◌&&◌, ℕ, ◌%◌, ◌*◌, ◌+◌, ◌/◌, eqb, leb, ltb}
use mir.Val.{bool_byte}
use Rattle.word.specs.Word.{bit}

-- "bit 0 of the output byte, if set, winds one notch"
abbrev pub wound_by : ℕ → ℕ
wound_by output = bit 0 output

-- "every r-th tick, counted from 1, the train takes one notch if any is left"
abbrev pub taken_at : ℕ → ℕ → ℕ → ℕ
taken_at r tick standing = bool_byte (eqb (tick % r) 0 && ltb 0 standing)

-- "the whole turns standing have reached the label"
abbrev pub reached : ℕ → ℕ → ℕ → Bool
reached turns notches standing = leb turns (standing / notches)

-- the input byte with this bit 0: "Input bits 1-7 are kept"
abbrev pub input_with : Bool → ℕ → ℕ
input_with set input = input / 2 * 2 + bool_byte set

-- "more standing than the label times the notches per turn"
abbrev pub is_over : ℕ → ℕ → ℕ → Bool
is_over turns notches standing = ltb (turns * notches) standing

-- "the first tick, counted from 1, with more standing ..., or 0 for none": the one found before, or this one
unfoldable pub first_over : ℕ → ℕ → Bool → ℕ
first_over before tick over = cond (eqb before 0 && over) tick before
