-- The first word by its entry in the table.
-- Assumes nothing.
use mathlib.Core.Bool.{cond}
use mathlib.Core.List.{List}
use mathlib.Core.Path.{ap, refl, sym, ◌∙◌, ◌≡◌}
use Prim.Native.Nat.{suc, zero, ℕ, ◌%◌, ◌+◌, ◌/◌, ◌<◌}
use native.Mathlib.Nat.{add-suc, add-zero, le_of_suc-le-suc, not-suc-le-zero, suc-add, zero-add}
use native.Mathlib.Omega.{arith}
use lib.Dec.{eqb}
use lib.ListN.{get_or}
use Rattle.word.specs.Word.{upper}
use Rattle.decode.specs.Decode.{first_in, first_of, has_second, rd_bad, rd_field, rx_field}
use Rattle.decode.specs.Entry.{entry_of, table_from, table_of}
use Rattle.decode.specs.Instructions.{add_states, div_states, eight, row, rows, shift_states, single}
use Rattle.decode.specs.Opcode.{cost_of, in_modes, in_rows, mode_bits, opcode_of, states_at}
use Rattle.decode.specs.Properties.{row_of, with_code}
use Rattle.std.specs.Prelude.{Option, None, Some}
use Rattle.decode.specs.declared.Shape.{Shape}
use Rattle.decode.proofs.Rows.{same, values}

-- what the entry `e` says of the word `w`, where that is defined
abbrev pub shape_entry : ℕ → ℕ → Shape
shape_entry e w =
    record {
      code = e % 32;
      mode = e / 0x20 % 16;
      rd = rd_field w;
      rx = rx_field w;
      second = has_second (e / 0x20 % 16);
      cost = e / 0x200 % 128;
      privilege = (row_of (e % 32)).privilege;
      access = (row_of (e % 32)).access;
      flow = (row_of (e % 32)).flow;
    }

-- what it makes of the word
abbrev pub first_entry : ℕ → ℕ → Option Shape
first_entry e w =
    cond (eqb e 0x1e0) None (cond (rd_bad (row_of (e % 32)).rd (rd_field w)) None (Some (shape_entry e w)))

-- each of the 256 entries says what the rules say, whatever the word
by_byte : (w k : ℕ) → k < 256 → first_in (opcode_of k) w ≡ first_entry (entry_of k) w
unfolding values entry_of opcode_of in_rows in_modes mode_bits rows row eight single add_states div_states shift_states cost_of states_at row_of with_code
by_byte w k h = rw (zero-add k) at (same (λ (k : ℕ). first_in (opcode_of k) w) (λ (k : ℕ). first_entry (entry_of k) w) 0 256 k refl h)

-- the entries stand in the table at their bytes
entries_at : (n i k : ℕ) → k < n → get_or (table_from i n) k 0 ≡ entry_of (i + k)
unfolding table_from
entries_at zero i k h = absurd (not-suc-le-zero h)
entries_at (suc n) i zero h = rw (add-zero i)
entries_at (suc n) i (suc k) h = entries_at n (suc i) k (le_of_suc-le-suc h) ∙ ap entry_of (suc-add i k ∙ sym (add-suc i k))

entry_at : (k : ℕ) → k < 256 → get_or table_of k 0 ≡ entry_of k
unfolding table_of
entry_at k h = entries_at 256 0 k h ∙ ap entry_of (zero-add k)

-- what the first word says, by the entry of its upper byte
pub first_by_entry : (t : List ℕ) (w : ℕ) → t ≡ table_of → w < 65536 → first_of w ≡ first_entry (get_or t (upper w) 0) w
unfolding first_of
first_by_entry t w e h = rw (e, entry_at (upper w) (omega arith)) (by_byte w (upper w) (omega arith))
