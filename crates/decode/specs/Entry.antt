-- The decoding table: "an entry for each of the 256 first bytes".
-- Assumes nothing.
use Rattle.std.specs.Prelude.{List, [], ◌∷◌, suc, zero, ℕ, ◌*◌, ◌+◌}
use Rattle.decode.specs.Opcode.{Opcode, cost_of, known, opcode_of, unknown}

-- The entry of a first byte holds, from its lowest bit up: the instruction's number (5 bits), the mode (4), the states (7). That of a byte which is no
-- instruction has mode 15, which is none.
abbrev pub packed : Opcode → ℕ
packed unknown = 0x1e0
packed (known r mode) = r.code + 0x20 * mode + 0x200 * cost_of r mode

-- the entry of a first byte
unfoldable pub entry_of : ℕ → ℕ
entry_of i = packed (opcode_of i)

-- `n` entries from `from` on
unfoldable pub table_from : ℕ → ℕ → List ℕ
table_from from zero = []
table_from from (suc n) = entry_of from ∷ table_from (suc from) n

-- the table
unfoldable pub table_of : List ℕ
table_of = table_from 0 256
