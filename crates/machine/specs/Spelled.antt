-- A list of a known length, spelled out by its elements.
-- Assumes nothing.
use Rattle.std.specs.Prelude.{List, [], ◌∷◌, ◌≡◌, suc, zero, ℕ, ◌+◌, drop, get_or, length}
use Rattle.std.proofs.Common.{ap, ◌∙◌, add-zero, arith, drop_of_length-le, drop-cons}

-- the n elements from k on
abbrev pub spelled : List ℕ → ℕ → ℕ → List ℕ
spelled l k zero = []
spelled l k (suc n) = get_or l k 0 ∷ spelled l (suc k) n

spell : (l : List ℕ) (n k : ℕ) → length l ≡ k + n → drop k l ≡ spelled l k n
spell l zero k e = drop_of_length-le l {i = k} (omega (arith, add-zero k))
spell l (suc n) k e = drop-cons l k 0 (omega arith) ∙ ap (λ (r : List ℕ). get_or l k 0 ∷ r) (spell l n (suc k) (omega arith))

pub whole : (l : List ℕ) (n : ℕ) → length l ≡ n → l ≡ spelled l 0 n
whole l n e = spell l n 0 (omega arith)
