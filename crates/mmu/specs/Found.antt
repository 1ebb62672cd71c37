-- The entry that a lookup finds: one of the eight, valid, with the page.
-- Assumes nothing.
use Rattle.std.specs.Prelude.{Bool, cond, false, true, List, Some, ◌≡◌, refl, ℕ, suc, zero, ◌+◌, ◌<◌, eqb, get_or}
use Rattle.std.proofs.Common.{arith, eqb-true}
use Rattle.word.specs.Cases.{rest, this}
use Rattle.mmu.specs.Entry.{page_in, valid}
use Rattle.mmu.specs.Lookup.{has_page, lookup_from, lookup_of}

pub record Found (tlb : List ℕ) (page k : ℕ) : Type 0 where
  pub below : k < 8
  pub held : has_page page (get_or tlb k 0) ≡ true

found_from :
    (tlb : List ℕ) (page left k n : ℕ) → lookup_from tlb page left k ≡ Some n → (n < k + left) × (has_page page (get_or tlb n 0) ≡ true)
unfolding lookup_from
found_from tlb page zero k n e = let z : ◌≡◌ {A = ℕ} 0 1 = cc in absurd (omega arith)
found_from tlb page (suc left) k n e = by (has_page page (get_or tlb k 0)) refl (found_from tlb page left (k + 1) n) e
  where
    by :
        (t : Bool) → has_page page (get_or tlb k 0) ≡ t
        → (lookup_from tlb page left (k + 1) ≡ Some n → (n < k + 1 + left) × (has_page page (get_or tlb n 0) ≡ true))
        → cond t (Some k) (lookup_from tlb page left (k + 1)) ≡ Some n → (n < k + suc left) × (has_page page (get_or tlb n 0) ≡ true)
    by true h later e = let same : n ≡ k = cc in (omega arith, rw same h)
    by false h later e = let r = later e in (omega (arith, r.0), r.1)

pub found : (tlb : List ℕ) (page k : ℕ) → lookup_of tlb page ≡ Some k → Found tlb page k
unfolding lookup_of
found tlb page k e = let r = found_from tlb page 8 0 k e in record { below = r.0; held = r.1 }

-- ---- what it is to hold a page

pub held_valid : (page entry : ℕ) → has_page page entry ≡ true → valid entry ≡ true
held_valid page entry h = rest (eqb (page_in entry) page) (valid entry) h

pub held_page : (page entry : ℕ) → has_page page entry ≡ true → page_in entry ≡ page
held_page page entry h = eqb-true _ _ (this (eqb (page_in entry) page) (valid entry) h)
