-- The entries that are still to go into a map: the first ones of a TLB.
-- Assumes nothing.
use mathlib.Core.List.{List, [], ◌∷◌}
use mathlib.Core.Path.{refl, sym, ◌∙◌, ◌≡◌}
use Prim.Native.Nat.{ℕ, ◌+◌, ◌<◌, ◌≤◌}
use native.Mathlib.Omega.{arith}
use lib.ListN.{get_or, length}
use Rattle.std.specs.List.{push}
use Rattle.std.proofs.lemmas.List.{get_or_append_left, get_or_push, length_push}

pub record Left (tlb xs : List ℕ) : Type 0 where
  pub few : length xs ≤ 8
  pub same : (k : ℕ) → k < length xs → get_or xs k 0 ≡ get_or tlb k 0

pub all_left : {tlb xs : List ℕ} → xs ≡ tlb → length tlb ≡ 8 → Left tlb xs
all_left {tlb} {xs} e n = rw e (record { few = omega (arith, n); same = λ k l. refl })

module _ {tlb xs : List ℕ} (ys : List ℕ) (x : ℕ) (l : Left tlb xs) (e : xs ≡ push ys x) where
  pub one_less : length xs ≡ length ys + 1
  one_less = rw e (length_push ys x)

  pub last : x ≡ get_or tlb (length ys) 0
  last = sym (get_or_push ys x 0 (length ys) refl) ∙ (rw e at (l.same (length ys) (omega (arith, one_less))))

  pub rest_left : Left tlb ys
  rest_left = record { few = omega (arith, one_less, l.few); same = λ k m. sym (get_or_append_left ys (x ∷ []) 0 k m) ∙ (rw e at (l.same k (omega (arith, one_less, m)))) }
