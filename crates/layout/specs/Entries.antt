-- TLB entries in bytes. Document 01, "Registers and state image": "eight TLB entries of 3 bytes", upper byte first.
-- Assumes nothing.
use Rattle.std.specs.Prelude.{List, [], ◌∷◌, suc, zero, ℕ, ◌%◌, ◌*◌, ◌+◌, ◌/◌, get_or}

-- the TLB entry at an offset
abbrev pub entry_from : List ℕ → ℕ → ℕ
entry_from b at = get_or b at 0 * 65536 + get_or b (at + 1) 0 * 256 + get_or b (at + 2) 0

-- `n` TLB entries from an offset on
abbrev pub tlb_entries_from : List ℕ → ℕ → ℕ → List ℕ
tlb_entries_from b at zero = []
tlb_entries_from b at (suc n) = entry_from b at ∷ tlb_entries_from b (at + 3) n

-- the bytes of TLB entries
unfoldable pub entry_bytes : List ℕ → List ℕ
entry_bytes [] = []
entry_bytes (e ∷ es) = (e / 65536 % 256) ∷ (e / 256 % 256) ∷ (e % 256) ∷ entry_bytes es
