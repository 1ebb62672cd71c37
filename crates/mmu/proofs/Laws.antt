-- The law of an access: it is one of its cases, and a word that is granted has an even address.
-- Assumes nothing.
use Rattle.std.specs.Prelude.{Bool, cond, List, Option, None, Some, Ok, ◌≡◌, ℕ, ◌%◌, eqb, get_or, set}
use Rattle.std.proofs.Math.Bool.{false, true}
use Rattle.std.proofs.Math.Path.{refl}
use Rattle.std.proofs.Common.{arith}
use Rattle.std.proofs.lemmas.Bool.{eqb-false}
use Rattle.word.specs.Cases.{either}
use Rattle.word.specs.Word.{halves, lower, upper}
use Rattle.word.specs.declared.Width.{Width}
use Rattle.word.specs.declared.Width.TheVariants.{Byte, Word}
use Rattle.mmu.specs.Access.{access_of, aligned_access, by_entry, by_lookup, by_tlb, failed, granted}
use Rattle.mmu.specs.Entry.{frame_in, gives, marked}
use Rattle.mmu.specs.Found.{Found, found}
use Rattle.mmu.specs.Lookup.{lookup_of}
use Rattle.mmu.specs.declared.Fault.TheVariants as fault
use Rattle.mmu.specs.declared.Right.{Right}
use Rattle.mmu.specs.Laws.{AccessCases, direct, served, fails}

module _ (tlb : List ℕ) (right : Right) (a : ℕ) where
  entry_cases : (k : ℕ) → Found tlb (upper a) k → AccessCases true tlb right a (by_entry tlb k right a)
  unfolding by_entry
  entry_cases k f = by (gives right (get_or tlb k 0)) refl
    where
      by :
          (t : Bool) → gives right (get_or tlb k 0) ≡ t
          → AccessCases true tlb right a
          (cond t (granted (halves (frame_in (get_or tlb k 0)) (lower a)) (set tlb k (marked right (get_or tlb k 0)))) (failed fault.Refused tlb))
      by true g = served k refl f.below f.held g refl
      by false g = fails fault.Refused refl

  lookup_cases : (l : Option ℕ) → lookup_of tlb (upper a) ≡ l → AccessCases true tlb right a (by_lookup l tlb right a)
  lookup_cases None e = fails fault.Missing refl
  lookup_cases (Some k) e = entry_cases k (found tlb (upper a) k e)

aligned_cases : (on : Bool) (tlb : List ℕ) (right : Right) (a : ℕ) → AccessCases on tlb right a (aligned_access on tlb right a)
unfolding aligned_access by_tlb
aligned_cases true tlb right a = lookup_cases tlb right a (lookup_of tlb (upper a)) refl
aligned_cases false tlb right a = direct refl refl

pub access_cases : (width : Width) (on : Bool) (tlb : List ℕ) (right : Right) (a : ℕ) → AccessCases on tlb right a (access_of width on tlb right a)
unfolding access_of
access_cases Byte on tlb right a = aligned_cases on tlb right a
access_cases Word on tlb right a =
    either (AccessCases on tlb right a) (eqb (a % 2) 1) (λ _. fails fault.Odd refl) (λ _. aligned_cases on tlb right a)

-- a word that is granted has an even address
pub word_even : (on : Bool) (tlb : List ℕ) (right : Right) (a p : ℕ) → (access_of Word on tlb right a).access ≡ Ok p → a % 2 ≡ 0
unfolding access_of
word_even on tlb right a p = by (eqb (a % 2) 1) refl
  where
    by :
        (t : Bool) → eqb (a % 2) 1 ≡ t → (cond t (failed fault.Odd tlb) (aligned_access on tlb right a)).access ≡ Ok p
        → a % 2 ≡ 0
    by true o e = let z : ◌≡◌ {A = ℕ} 0 1 = cc in absurd (omega arith)
    by false o e = omega (arith, eqb-false (a % 2) 1 o)
