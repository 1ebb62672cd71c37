-- What the rows of a range of numbers have in common: by computing it for each.
-- Assumes nothing.
use mathlib.Core.List.{List, [], ◌∷◌}
use mathlib.Core.Path.{◌≡◌}
use Prim.Native.Nat.{suc, zero, ℕ, ◌+◌, ◌<◌}
use native.Mathlib.Nat.{add-suc, add-zero, le_of_suc-le-suc, not-suc-le-zero, suc-add}

-- `n` values of `f`, from that at `from` on
unfoldable pub values : {A : Type 0} → (ℕ → A) → ℕ → ℕ → List A
values f from zero = []
values f from (suc n) = f from ∷ values f (suc from) n

-- two functions with the same values agree at each number
pub same : {A : Type 0} (f g : ℕ → A) (from n k : ℕ) → values f from n ≡ values g from n → k < n → f (from + k) ≡ g (from + k)
unfolding values
same f g from zero k e h = absurd (not-suc-le-zero h)
same f g from (suc n) zero e h = rw (add-zero from) (cc)
same f g from (suc n) (suc k) e h = rw (add-suc from k, ← suc-add from k) (same f g (suc from) n k (cc) (le_of_suc-le-suc h))
