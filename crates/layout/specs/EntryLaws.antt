-- TLB entries one behind the other: laws of reading and of storing them.
-- Assumes nothing.
use Rattle.std.specs.Prelude.{[], List, ◌++◌, ◌∷◌, refl, ◌≡◌, ℕ, ◌%◌, ◌*◌, ◌+◌, ◌/◌}
use Rattle.endian.specs.Laws.{Laid, Reads, reads_more}
use Rattle.layout.specs.Entries.{tlb_entries_from, entry_from, entry_bytes}

pub entries_read : Reads 3 entry_from tlb_entries_from
entries_read = record { none = λ b at. refl; more = λ b at n. refl }

pub entries_more : (b : List ℕ) (at n : ℕ) → tlb_entries_from b at (n + 1) ≡ tlb_entries_from b at n ++ (entry_from b (at + 3 * n) ∷ [])
entries_more = reads_more entries_read

pub entries_laid : Laid 3 entry_bytes
unfolding entry_bytes
entries_laid =
    record {
      one = λ x. (x / 65536 % 256) ∷ (x / 256 % 256) ∷ (x % 256) ∷ [];
      none = refl;
      more = λ x xs. refl;
      long = λ x. refl;
    }
