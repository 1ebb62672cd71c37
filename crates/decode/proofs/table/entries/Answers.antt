-- `decode::table::entries` meets its contract: the table is the rule's, entry by entry, by computation.
use mathlib.Core.Path.{refl}
use Rattle.decode.specs.Entry.{entry_of, table_from, table_of}
use Rattle.decode.specs.Instructions.{add_states, div_states, eight, row, rows, shift_states, single}
use Rattle.decode.specs.Opcode.{cost_of, in_modes, in_rows, mode_bits, opcode_of, states_at}
use Rattle.decode.proofs.table.entries.Goals as goal

pub returns : goal.returns
unfolding table_of table_from entry_of opcode_of in_rows in_modes mode_bits rows row eight single add_states div_states shift_states cost_of states_at
returns c = refl
