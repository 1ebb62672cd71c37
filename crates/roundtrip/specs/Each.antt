-- What holds of each element of a list, of lists made from others.
-- Assumes nothing.
use Rattle.std.specs.Prelude.{List, [], ◌++◌, ◌∷◌, ℕ, suc, zero, set}
use Rattle.roundtrip.specs.Statement.{Each}

module _ (P : ℕ → Type 0) where
  pub each_cons : (x : ℕ) (xs : List ℕ) → P x → Each P xs → Each P (x ∷ xs)
  each_cons x xs p h zero = p
  each_cons x xs p h (suc k) = h k

  pub each_append : (a b : List ℕ) → Each P a → Each P b → Each P (a ++ b)
  each_append [] b h g k = g k
  each_append (x ∷ xs) b h g zero = h zero
  each_append (x ∷ xs) b h g (suc k) = each_append xs b (λ j. h (suc j)) g k

  pub each_set : (l : List ℕ) (i v : ℕ) → Each P l → P v → Each P (set l i v)
  each_set [] i v h p k = h k
  each_set (x ∷ xs) zero v h p zero = p
  each_set (x ∷ xs) zero v h p (suc k) = h (suc k)
  each_set (x ∷ xs) (suc i) v h p zero = h zero
  each_set (x ∷ xs) (suc i) v h p (suc k) = each_set xs i v (λ j. h (suc j)) p k
