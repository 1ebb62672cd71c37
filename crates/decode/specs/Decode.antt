-- The decoding of an instruction word. Document 01, "Instruction words".
-- Assumes nothing.
use Rattle.std.specs.Prelude.{Bool, cond, false, ℕ, ◌%◌, ◌/◌, eqb, ltb, pos, ◌*ℤ◌, Option, None, Some}
use Rattle.jump.specs.Jump.{condition_undefined}
use Rattle.word.specs.Signed.{signed4}
use Rattle.word.specs.Word.{upper}
use Rattle.decode.specs.Instructions.{RdUse, Row, condition, register, unused}
use Rattle.decode.specs.Opcode.{Opcode, cost_of, known, opcode_of, unknown}
use Rattle.decode.specs.declared.Instruction.{Instruction}
use Rattle.decode.specs.declared.Operand.{Operand}
use Rattle.decode.specs.declared.Operand.TheVariants.{ByteIndirect, Direct, Frame, Immediate, Indexed, Indirect, Nothing, Register, Short}
use Rattle.decode.specs.declared.Shape.{Shape}

-- the fields of an instruction word
abbrev pub rd_field : ℕ → ℕ
rd_field w = w / 16 % 16

abbrev pub rx_field : ℕ → ℕ
rx_field w = w % 16

-- "Dh is undefined", of a jump's conditions. "Unused fields aren't looked at (H)." Of "A used register field of 15 is undefined (H)" document 02,
-- 4/14, leaves Rd: "As Rd, in PUSH and in POP it remains undefined."
abbrev pub rd_bad : RdUse → ℕ → Bool
rd_bad register n = eqb n 15
rd_bad condition n = condition_undefined n
rd_bad unused n = false

-- "Modes 0-2 have a second word."
unfoldable pub has_second : ℕ → Bool
has_second mode = ltb mode 3

-- a defined first word: its row, its mode, its fields, whether a second word follows, its states
abbrev pub shape_of : Row → ℕ → ℕ → Shape
shape_of r mode w =
    record {
      code = r.code;
      mode = mode;
      rd = rd_field w;
      rx = rx_field w;
      second = has_second mode;
      cost = cost_of r mode;
      privilege = r.privilege;
      access = r.access;
      flow = r.flow;
    }

abbrev pub first_in : Opcode → ℕ → Option Shape
first_in unknown w = None
first_in (known r mode) w = cond (rd_bad r.rd (rd_field w)) None (Some (shape_of r mode w))

-- what the first word of an instruction says, and nothing of one that is undefined
unfoldable pub first_of : ℕ → Option Shape
first_of w = first_in (opcode_of (upper w)) w

-- "0 direct [Dsp], 1 indexed [Dsp+Rx], 2 immediate, 3 [FP + 2 × D4], 4 register, 5 four-bit immediate, 6 [Rx], 7 byte at [Rx]".
-- Mode 3 holds the D4 doubled. The last field is a register's in modes 1, 4, 6 and 7, whatever its number (document 02, 4/14), and data in 3
-- and 5; elsewhere it is not looked at.
unfoldable pub operand_of : ℕ → ℕ → ℕ → Operand
operand_of mode rx second =
    cond (eqb mode 0) (Direct second)
    (cond (eqb mode 1) (Indexed second rx)
    (cond (eqb mode 2) (Immediate second)
    (cond (eqb mode 3) (Frame (signed4 rx *ℤ pos 2))
    (cond (eqb mode 4) (Register rx)
    (cond (eqb mode 5) (Short (signed4 rx))
    (cond (eqb mode 6) (Indirect rx)
    (cond (eqb mode 7) (ByteIndirect rx)
    Nothing)))))))

-- the instruction of a defined first word and its second word, which is 0 where there is none
abbrev pub instruction_of : Shape → ℕ → Instruction
instruction_of shape second =
    record {
      code = shape.code;
      rd = shape.rd;
      operand = operand_of shape.mode shape.rx second;
      cost = shape.cost;
      access = shape.access;
      flow = shape.flow;
    }
