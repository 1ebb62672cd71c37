-- Laws of the conditions: opposites, and which are undefined.
-- Assumes nothing.
use Rattle.std.specs.Prelude.{Bool, false, not, true, List, [], map, ◌++◌, ◌∷◌, ◌≡◌, refl, ℕ, ◌-◌, ◌≤◌, ◌<◌, eqb, get_or, replicate, None, Some}
use Rattle.std.proofs.Common.{⊎_elim, ap, sym, ◌∙◌, arith, ne_eqb}
use Rattle.std.proofs.Math.ListN.{get_or-append, get_or-eq_default, get_or-map}
use Rattle.std.proofs.lemmas.List.{get_or-replicate}
use Rattle.word.specs.Laws.{order}
use Rattle.jump.specs.Jump.{condition_of, condition_undefined, conditions, is_undefined}

opposite : (a b : Bool) → Some b ≡ Some a → Some (not b) ≡ Some (not a)
opposite a b e = cc

-- "8-Bh the opposites of 0-3"
pub condition_opposite :
    (code : ℕ) (v c s z b : Bool) → 8 ≤ code → code < 12 → Some b ≡ condition_of (code - 8) v c s z
    → Some (not b) ≡ condition_of code v c s z
unfolding condition_of
condition_opposite code v c s z b low high e =
    ⊎_elim (λ k. at 8 z (omega arith) refl refl) (λ h9.
    ⊎_elim (λ k. at 9 c (omega arith) refl refl) (λ h10.
    ⊎_elim (λ k. at 10 s (omega arith) refl refl) (λ h11. at 11 v (omega arith) refl refl)
    (order code 11)) (order code 10)) (order code 9)
  where
    at :
        (k : ℕ) (a : Bool) → code ≡ k → condition_of (k - 8) v c s z ≡ Some a → condition_of k v c s z ≡ Some (not a)
        → Some (not b) ≡ condition_of code v c s z
    at k a q first second =
        opposite a b (e ∙ ap (λ (n : ℕ). condition_of (n - 8) v c s z) q ∙ first)
        ∙ sym second
        ∙ sym (ap (λ (n : ℕ). condition_of n v c s z) q)

-- a number past Fh is no condition
pub condition_past : (code : ℕ) (v c s z : Bool) → 16 ≤ code → condition_of code v c s z ≡ None
unfolding condition_of
condition_past code v c s z h = get_or-eq_default (conditions v c s z) None h

-- which of the sixteen are undefined
undefineds : List Bool
undefineds = replicate 13 false ++ (true ∷ false ∷ false ∷ [])

undefineds_are : (v c s z : Bool) → map is_undefined (conditions v c s z) ≡ undefineds
unfolding undefineds
undefineds_are v c s z = refl

condition_listed : (code : ℕ) (v c s z : Bool) → is_undefined (condition_of code v c s z) ≡ get_or undefineds code true
unfolding condition_of
condition_listed code v c s z =
    sym (get_or-map is_undefined (conditions v c s z) code None)
    ∙ ap (λ (l : List Bool). get_or l code true) (undefineds_are v c s z)

-- whether a condition is undefined does not depend on the flags
pub undefined_always : (code : ℕ) (v c s z : Bool) → is_undefined (condition_of code v c s z) ≡ condition_undefined code
unfolding condition_undefined
undefined_always code v c s z = condition_listed code v c s z ∙ sym (condition_listed code false false false false)

-- of the sixteen conditions only 13 is undefined
pub undefined_thirteen : (code : ℕ) → code < 16 → condition_undefined code ≡ eqb code 13
unfolding condition_undefined undefineds
undefined_thirteen code h =
    condition_listed code false false false false
    ∙ ⊎_elim (λ k.
    get_or-append (replicate 13 false) (true ∷ false ∷ false ∷ []) true code k
    ∙ get_or-replicate 13 code false true k
    ∙ sym (ne_eqb code 13 (λ e. omega arith))) (λ h13.
    ⊎_elim (λ k. at 13 (omega arith) refl) (λ h14.
    ⊎_elim (λ k. at 14 (omega arith) refl) (λ h15. at 15 (omega arith) refl)
    (order code 15)) (order code 14)) (order code 13)
  where
    at : (k : ℕ) → code ≡ k → get_or undefineds k true ≡ eqb k 13 → get_or undefineds code true ≡ eqb code 13
    at k q e = rw q e
