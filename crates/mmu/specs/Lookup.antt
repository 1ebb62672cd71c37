-- The lookup of a page. Document 01, "MMU": "The lowest-numbered valid entry with the page serves (H)."
-- Assumes nothing.
use Rattle.std.specs.Prelude.{Bool, cond, ◌&&◌, List, Option, None, Some, suc, zero, ℕ, ◌+◌, eqb, get_or}
use Rattle.mmu.specs.Entry.{page_in, valid}

-- a valid entry with the page
abbrev pub has_page : ℕ → ℕ → Bool
has_page page entry = eqb (page_in entry) page && valid entry

-- among `left` entries from k on
unfoldable pub lookup_from : List ℕ → ℕ → ℕ → ℕ → Option ℕ
lookup_from tlb page zero k = None
lookup_from tlb page (suc left) k = cond (has_page page (get_or tlb k 0)) (Some k) (lookup_from tlb page left (k + 1))

unfoldable pub lookup_of : List ℕ → ℕ → Option ℕ
lookup_of tlb page = lookup_from tlb page 8 0
