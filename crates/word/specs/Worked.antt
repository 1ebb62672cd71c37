-- The sixteen values of a four-bit operand.
-- Assumes nothing.
use Rattle.std.specs.Prelude.{◌≡◌, ℕ, List, [], ◌∷◌, map, ℤ, pos, negsuc, refl}
use Rattle.word.specs.Signed.{signed4}

abbrev pub fields : List ℕ
fields = 0 ∷ 1 ∷ 2 ∷ 3 ∷ 4 ∷ 5 ∷ 6 ∷ 7 ∷ 8 ∷ 9 ∷ 10 ∷ 11 ∷ 12 ∷ 13 ∷ 14 ∷ 15 ∷ []

-- 0 to 7, then -8 to -1. `negsuc n` is -(n + 1)
abbrev pub meanings : List ℤ
meanings =
    pos 0 ∷ pos 1 ∷ pos 2 ∷ pos 3 ∷ pos 4 ∷ pos 5 ∷ pos 6 ∷ pos 7
    ∷ negsuc 7 ∷ negsuc 6 ∷ negsuc 5 ∷ negsuc 4 ∷ negsuc 3 ∷ negsuc 2 ∷ negsuc 1 ∷ negsuc 0 ∷ []

-- "All sixteen values keep their meaning, -8 to 7." Document 02, request 3.
pub worked_fields : map signed4 fields ≡ meanings
unfolding signed4
worked_fields = refl
