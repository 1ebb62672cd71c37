-- The lookup is the position of the first entry that has the page.
-- Assumes nothing.
use Rattle.std.specs.Prelude.{List, [], Some, position, length, drop, ◌≡◌, ℕ, suc, zero, ◌<◌, ◌+◌}
use Rattle.std.specs.List.{position_from}
use Rattle.std.proofs.Common.{arith, sym, ◌∙◌, add-one, drop-cons}
use Rattle.std.proofs.lemmas.List.{drop_all}
use Rattle.std.proofs.lemmas.Iterator.Adapters.{position_from-zero}
use Rattle.mmu.specs.Found.{found}
use Rattle.mmu.specs.Lookup.{has_page, lookup_from, lookup_of}

from : (tlb : List ℕ) (page left k : ℕ) → k + left ≡ length tlb → lookup_from tlb page left k ≡ position_from (has_page page) k (drop k tlb)
unfolding lookup_from
from tlb page zero k e = let none : drop k tlb ≡ [] = drop_all k tlb (omega arith) in rw none
from tlb page (suc left) k e = rw (drop-cons tlb k 0 (omega arith), from tlb page left (k + 1) (omega arith), add-one)

pub lookup_position : (tlb : List ℕ) (page : ℕ) → length tlb ≡ 8 → lookup_of tlb page ≡ position (has_page page) tlb
unfolding lookup_of
lookup_position tlb page e = from tlb page 8 0 (omega arith) ∙ sym (position_from-zero (has_page page) tlb)

pub served_below : (tlb : List ℕ) (page k : ℕ) → length tlb ≡ 8 → Some k ≡ position (has_page page) tlb → k < 8
served_below tlb page k l e = (found tlb page k (lookup_position tlb page l ∙ sym e)).below
