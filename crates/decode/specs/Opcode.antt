-- What a first byte is: the row of an instruction, and the mode. Document 01, "Instruction words": "First byte and allowed modes".
-- Assumes nothing.
use Rattle.std.specs.Prelude.{cond, List, [], ◌∷◌, ℕ, ◌+◌, eqb}
use Rattle.decode.specs.Instructions.{Row, no_operand, rows}

-- What a first byte is: no instruction, or that of a row in a mode.
pub data Opcode : Type 0 where
  unknown : Opcode
  known : Row → ℕ → Opcode

-- what a mode adds to the first byte
unfoldable pub mode_bits : ℕ → ℕ
mode_bits mode = cond (eqb mode no_operand) 0 mode

-- the byte is the row's in one of these modes
unfoldable pub in_modes : ℕ → Row → List ℕ → Opcode → Opcode
in_modes byte r [] other = other
in_modes byte r (m ∷ ms) other = cond (eqb byte (r.byte + mode_bits m)) (known r m) (in_modes byte r ms other)

unfoldable pub in_rows : ℕ → List Row → Opcode
in_rows byte [] = unknown
in_rows byte (r ∷ rs) = in_modes byte r r.modes (in_rows byte rs)

-- what a first byte is
unfoldable pub opcode_of : ℕ → Opcode
opcode_of byte = in_rows byte rows

-- the states that stand at the mode's place
unfoldable pub states_at : ℕ → List ℕ → List ℕ → ℕ
states_at mode [] ts = 0
states_at mode (m ∷ ms) [] = 0
states_at mode (m ∷ ms) (t ∷ ts) = cond (eqb mode m) t (states_at mode ms ts)

-- the states of an instruction in a mode
unfoldable pub cost_of : Row → ℕ → ℕ
cost_of r mode = states_at mode r.modes r.states
