-- The data access that an instruction needs. Document 01, "Instruction words" and "Results and flags".
-- Assumes nothing.
use Rattle.std.specs.Prelude.{cond, ℕ, eqb}
use Rattle.decode.specs.Code.{CALL}
use Rattle.decode.specs.declared.DataAccess.{DataAccess}
use Rattle.decode.specs.declared.DataAccess.TheVariants.{Destination, Flag, None, Pop, PopTwo, Push, Source}
use Rattle.decode.specs.declared.Operand.{Operand}
use Rattle.decode.specs.declared.Operand.TheVariants as operand
use Rattle.word.specs.Signed.{word}
use Rattle.word.specs.Word.{minus, plus}
use Rattle.word.specs.declared.Width.{Width}
use Rattle.word.specs.declared.Width.TheVariants.{Byte, Word}
use Rattle.transfer.specs.declared.Need.{Need}
use Rattle.transfer.specs.declared.Need.TheVariants.{Read, ReadTwo, Value, Write}

-- The address that an operand names. `reg` gives the registers: "Addresses use the registers as they were before the instruction."
unfoldable pub address_of : (ℕ → ℕ) → Operand → ℕ
address_of reg (operand.Direct dsp) = dsp
address_of reg (operand.Indexed dsp rx) = plus dsp (reg rx)
address_of reg (operand.Immediate v) = 0
address_of reg (operand.Frame d) = plus (reg 12) (word d)
address_of reg (operand.Register r) = 0
address_of reg (operand.Short v) = 0
address_of reg (operand.Indirect rx) = reg rx
address_of reg (operand.ByteIndirect rx) = reg rx
address_of reg operand.Nothing = 0

-- the source of LD and of ADD to SHRL, `a` being the operand's address
unfoldable pub load_need : (ℕ → ℕ) → ℕ → Operand → Need
load_need reg a (operand.Direct dsp) = Read Word a
load_need reg a (operand.Indexed dsp rx) = Read Word a
load_need reg a (operand.Immediate v) = Value v
load_need reg a (operand.Frame d) = Read Word a
load_need reg a (operand.Register r) = Value (reg r)
load_need reg a (operand.Short v) = Value (word v)
load_need reg a (operand.Indirect rx) = Read Word a
load_need reg a (operand.ByteIndirect rx) = Read Byte a
load_need reg a operand.Nothing = Value 0

-- "7 byte at [Rx]", a word in the other modes
abbrev pub width_of : Operand → Width
width_of (operand.Direct dsp) = Word
width_of (operand.Indexed dsp rx) = Word
width_of (operand.Immediate v) = Word
width_of (operand.Frame d) = Word
width_of (operand.Register r) = Word
width_of (operand.Short v) = Word
width_of (operand.Indirect rx) = Word
width_of (operand.ByteIndirect rx) = Byte
width_of operand.Nothing = Word

-- the place of ST
abbrev pub store_need : ℕ → Operand → Need
store_need a x = Write (width_of x) a

-- The data access of an instruction, `sp` and `flag` being SP and FLAG. "PUSH and CALL lower SP by 2 and store; POP, RET and RETI read and
-- raise it." "RETI takes FLAG, then PC, both from SSP". "For jumps, CALL, IN and OUT the address itself is the target or port, not a word read
-- there."
unfoldable pub need_of : DataAccess → (ℕ → ℕ) → ℕ → ℕ → ℕ → Operand → Need
need_of None reg sp flag a x = Value 0
need_of Flag reg sp flag a x = Value flag
need_of Source reg sp flag a x = load_need reg a x
need_of Destination reg sp flag a x = store_need a x
need_of Push reg sp flag a x = Write Word (minus sp 2)
need_of Pop reg sp flag a x = Read Word sp
need_of PopTwo reg sp flag a x = ReadTwo sp

-- What an instruction stores: CALL "the following instruction's address", ST and PUSH what Rd holds.
unfoldable pub value_stored : ℕ → ℕ → ℕ → ℕ
value_stored code held following = cond (eqb code CALL) following held
