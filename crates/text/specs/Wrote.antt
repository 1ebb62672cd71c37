-- What is written piece by piece is written as one.
-- Assumes nothing.
use Rattle.std.specs.Prelude.{List, [], ◌++◌, ◌∷◌, refl, ◌≡◌, min, suc, ℕ, ◌+◌, ◌≤◌, length}
use Rattle.std.proofs.Common.{ap, sym, ◌∙◌, length-append}
use native.Mathlib.Omega.{arith, min_cases}
use Rattle.std.proofs.Math.Seq.{length-sets, set_out}
use Rattle.std.proofs.lemmas.List.Edits.{sets}
use Rattle.endian.specs.Laws.{sets_append}
use Rattle.text.specs.Written.{WroteText}

pub sets_out : (t : List ℕ) (i : ℕ) (xs : List ℕ) → length t ≤ i → sets t i xs ≡ t
sets_out t i [] h = refl
sets_out t i (x ∷ xs) h = rw (set_out t i x h) (sets_out t (suc i) xs (omega arith))

-- beyond the end nothing is written
sets_min : (t : List ℕ) (i : ℕ) (xs : List ℕ) → sets t (min i (length t)) xs ≡ sets t i xs
sets_min t i xs =
    min_cases i (length t) (sets t (min i (length t)) xs ≡ sets t i xs)
    (λ h e. rw e)
    (λ h e. rw e (sets_out t (length t) xs (omega arith) ∙ sym (sets_out t i xs h)))

module _ {t₀ t₁ : List ℕ} {at₀ at₁ : ℕ} {xs : List ℕ} (w : WroteText t₀ t₁ at₀ at₁ xs) where
  pub same_room : length t₁ ≡ length t₀
  same_room = ap length w.text ∙ length-sets t₀ at₀ xs

  pub then : {t₂ : List ℕ} {at₂ : ℕ} {ys : List ℕ} → WroteText t₁ t₂ at₁ at₂ ys → WroteText t₀ t₂ at₀ at₂ (xs ++ ys)
  then {t₂} {at₂} {ys} v =
      record {
        text =
            v.text
            ∙ ap (λ (k : ℕ). sets t₁ k ys) (w.cursor ∙ ap (λ (n : ℕ). min (at₀ + length xs) n) (sym same_room))
            ∙ sets_min t₁ (at₀ + length xs) ys
            ∙ ap (λ (t : List ℕ). sets t (at₀ + length xs) ys) w.text
            ∙ sym (sets_append xs ys t₀ at₀);
        cursor = omega (arith, same_room, length-append xs ys);
      }

-- a cursor that is within the buffer
pub nothing : (t : List ℕ) (at : ℕ) → at ≤ length t → WroteText t t at at []
nothing t at h = record { text = refl; cursor = omega arith }
