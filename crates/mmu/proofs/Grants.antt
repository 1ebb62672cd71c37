-- Accesses that are granted and leave the TLB as it is: one that is not translated, and one by an entry that has its marks.
-- Assumes nothing.
use Rattle.std.specs.Prelude.{Bool, false, true, List, Some, ◌≡◌, ℕ, ◌%◌, get_or}
use Rattle.std.proofs.Math.Path.{refl}
use Rattle.std.proofs.Common.{arith, ne_eqb}
use Rattle.std.proofs.lemmas.List.{set-get_or}
use Rattle.word.specs.Width.{bytes_of}
use Rattle.word.specs.Word.{halves, lower, upper}
use Rattle.word.specs.declared.Width.{Width}
use Rattle.word.specs.declared.Width.TheVariants.{Byte, Word}
use Rattle.mmu.specs.Access.{access_of, aligned_access, by_entry, by_tlb, granted}
use Rattle.mmu.specs.Entry.{frame_in, gives, marked}
use Rattle.mmu.specs.Lookup.{lookup_of}
use Rattle.mmu.specs.declared.Right.{Right}

module _ (tlb : List ℕ) (right : Right) (a : ℕ) where
  pub plain_granted : aligned_access false tlb right a ≡ granted a tlb
  unfolding aligned_access
  plain_granted = refl

  pub translated : aligned_access true tlb right a ≡ by_tlb tlb right a
  unfolding aligned_access
  translated = refl

  pub served_marked :
      (k : ℕ) → lookup_of tlb (upper a) ≡ Some k → gives right (get_or tlb k 0) ≡ true
      → marked right (get_or tlb k 0) ≡ get_or tlb k 0 → by_tlb tlb right a ≡ granted (halves (frame_in (get_or tlb k 0)) (lower a)) tlb
  unfolding by_tlb by_entry
  served_marked k e g m = rw (e, g, m, set-get_or)

  -- at a multiple of the width
  pub aligned_access_lem : (width : Width) (on : Bool) → a % bytes_of width ≡ 0 → access_of width on tlb right a ≡ aligned_access on tlb right a
  unfolding access_of
  aligned_access_lem Byte on e = refl
  aligned_access_lem Word on e = rw (ne_eqb (a % 2) 1 (λ q. omega arith))
