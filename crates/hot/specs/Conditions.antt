-- The flags as they stand in FLAG, and the jump conditions as words: bit 8V + 4C + 2S + Z tells whether the condition holds with these flags.
-- Assumes nothing.
use Rattle.std.specs.Prelude.{Bool, false, true, List, [], ◌∷◌, ◌≡◌, ℕ, ◌%◌, ◌*◌, ◌+◌, ◌/◌, ◌^◌, ◌≤◌, eqb, get_or}
use Rattle.std.proofs.Common.{ap, arith}
use mir.Val.{bool_byte}
use Rattle.status.specs.Flag.{taken_on}
use Rattle.status.specs.declared.Flags.{Flags}

-- V, C, S and Z in their places in FLAG
abbrev pub flag_bits : Bool → Bool → Bool → Bool → ℕ
flag_bits v c s z = 8 * bool_byte v + 4 * bool_byte c + 2 * bool_byte s + bool_byte z

-- E, P and I in theirs
abbrev pub top_of : Flags → ℕ
top_of f = 128 * bool_byte f.e + 64 * bool_byte f.p + 32 * bool_byte f.i

abbrev pub is_bit : ℕ → ℕ → Bool
is_bit r k = eqb (r / 2 ^ k % 2) 1

-- r is the word of condition n
pub record HoldsBy (n r : ℕ) : Type 0 where
  pub tells : (v c s z : Bool) → is_bit r (flag_bits v c s z) ≡ taken_on n v c s z

-- the sixteen cases at once
abbrev pub bits_of : ℕ → List Bool
bits_of r =
    is_bit r 0 ∷ is_bit r 1 ∷ is_bit r 2 ∷ is_bit r 3 ∷ is_bit r 4 ∷ is_bit r 5 ∷ is_bit r 6 ∷ is_bit r 7
    ∷ is_bit r 8 ∷ is_bit r 9 ∷ is_bit r 10 ∷ is_bit r 11 ∷ is_bit r 12 ∷ is_bit r 13 ∷ is_bit r 14 ∷ is_bit r 15 ∷ []

unfoldable pub cases_of : ℕ → List Bool
cases_of n =
    taken_on n false false false false ∷ taken_on n false false false true ∷ taken_on n false false true false ∷ taken_on n false false true true
    ∷ taken_on n false true false false ∷ taken_on n false true false true ∷ taken_on n false true true false ∷ taken_on n false true true true
    ∷ taken_on n true false false false ∷ taken_on n true false false true ∷ taken_on n true false true false ∷ taken_on n true false true true
    ∷ taken_on n true true false false ∷ taken_on n true true false true ∷ taken_on n true true true false ∷ taken_on n true true true true ∷ []

pub by_cases : (n r : ℕ) → bits_of r ≡ cases_of n → HoldsBy n r
unfolding cases_of
by_cases n r e = record { tells = by }
  where
    at : (k : ℕ) → get_or (bits_of r) k false ≡ get_or (cases_of n) k false
    at k = ap (λ (xs : List Bool). get_or xs k false) e

    by : (v c s z : Bool) → is_bit r (flag_bits v c s z) ≡ taken_on n v c s z
    by false false false false = at 0
    by false false false true = at 1
    by false false true false = at 2
    by false false true true = at 3
    by false true false false = at 4
    by false true false true = at 5
    by false true true false = at 6
    by false true true true = at 7
    by true false false false = at 8
    by true false false true = at 9
    by true false true false = at 10
    by true false true true = at 11
    by true true false false = at 12
    by true true false true = at 13
    by true true true false = at 14
    by true true true true = at 15

-- a number that is not k is beyond it
pub beyond : {n : ℕ} (k : ℕ) → k ≤ n → (n ≡ k → ⊥) → k + 1 ≤ n
beyond k l e = omega arith
