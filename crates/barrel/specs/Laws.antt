-- Laws of the barrel: its bounds, its label, and the bits of the input byte.
-- Assumes nothing.
use Rattle.std.specs.Prelude.{Bool, false, true, ◌&&◌, refl, ◌≡◌, ℕ, ◌%◌, ◌*◌, ◌/◌, ◌<◌, ◌≤◌, eqb, leb, ltb}
use Rattle.std.proofs.Common.{sym, div-lt_iff_lt-mul, le-div_iff_mul-le, arith, le-leb, leb-false, leb-true, ltb-true}
use Rattle.std.proofs.lemmas.Bool.{lt-leb}
use mir.Val.{bool_byte}
use Rattle.barrel.specs.Barrel.{input_with, reached, taken_at, wound_by}

pub wound_small : (output : ℕ) → wound_by output ≤ 1
wound_small output = omega arith

-- the train takes what stands
pub taken_within : (r tick standing : ℕ) → taken_at r tick standing ≤ standing
taken_within r tick standing = by (eqb (tick % r) 0) (ltb 0 standing) refl
  where
    by : (a b : Bool) → ltb 0 standing ≡ b → bool_byte (a && b) ≤ standing
    by false b e = omega arith
    by true false e = omega arith
    by true true e = omega (arith, ltb-true 0 standing e)

-- ---- the label

-- the whole turns have reached the label where at least as many notches stand as it has
pub reached_at : (turns notches standing : ℕ) → 1 ≤ notches → reached turns notches standing ≡ leb (turns * notches) standing
reached_at turns notches standing h = by (leb turns (standing / notches)) refl
  where
    by : (t : Bool) → leb turns (standing / notches) ≡ t → t ≡ leb (turns * notches) standing
    by true e = sym (le-leb (turns * notches) standing ((le-div_iff_mul-le h).0 (leb-true turns (standing / notches) e)))
    by false e = sym (lt-leb (turns * notches) standing ((div-lt_iff_lt-mul h).0 (leb-false turns (standing / notches) e)))

-- ---- the input byte

pub input_bit : (set : Bool) (input : ℕ) → input_with set input % 2 ≡ bool_byte set
input_bit true input = omega arith
input_bit false input = omega arith

pub input_rest : (set : Bool) (input : ℕ) → input_with set input / 2 ≡ input / 2
input_rest true input = omega arith
input_rest false input = omega arith

pub input_small : (set : Bool) (input : ℕ) → input < 256 → input_with set input < 256
input_small true input h = omega arith
input_small false input h = omega arith
