-- The instructions, a row each. Document 01, "Instruction words": "First byte and allowed modes"; "Results and flags": "State counts, modes
-- 0-7 in order".
-- Assumes nothing.
use Rattle.std.specs.Prelude.{List, [], ◌∷◌, ℕ}
use Rattle.decode.specs.Code.{ADD, ADDS, AND, CALL, CMP, DIV, HALT, IN, JUMP, LD, LDFLAG, MOD, MUL, NO, OR, OUT, POP, PUSH, RET, RETI, SHLA, SHLL, SHRA, SHRL, ST, SUB, SVC, XOR}
use Rattle.decode.specs.declared.DataAccess.{DataAccess}
use Rattle.decode.specs.declared.DataAccess.TheVariants.{Destination, Flag, None, Pop, PopTwo, Push, Source}
use Rattle.decode.specs.declared.Flow.{Flow}
use Rattle.decode.specs.declared.Flow.TheVariants.{Call, Divide, Jump, Next, Resume, Return, Shift, Trap}
use Rattle.decode.specs.declared.Privilege.{Privilege}
use Rattle.decode.specs.declared.Privilege.TheVariants.{Anyone, Kernel, Ports}

-- What the field Rd is: a register, a jump's condition, or not looked at.
pub data RdUse : Type 0 where
  register : RdUse
  condition : RdUse
  unused : RdUse

-- An instruction: its first byte in mode 0 and its number, its modes and the states in each, what its field Rd is, who may use it, its
-- data access, and how it goes on. A single byte has the one mode `no_operand`. The states are a shift's without its places, and a jump's
-- where it is not taken.
pub record Row : Type 0 where
  pub byte : ℕ
  pub code : ℕ
  pub modes : List ℕ
  pub states : List ℕ
  pub rd : RdUse
  pub privilege : Privilege
  pub access : DataAccess
  pub flow : Flow

abbrev pub no_operand : ℕ
no_operand = 8

unfoldable pub eight : List ℕ
eight = 0 ∷ 1 ∷ 2 ∷ 3 ∷ 4 ∷ 5 ∷ 6 ∷ 7 ∷ []

unfoldable pub single : List ℕ
single = no_operand ∷ []

-- "ADD to XOR 7,7,5,7,5,4,6,6."
unfoldable pub add_states : List ℕ
add_states = 7 ∷ 7 ∷ 5 ∷ 7 ∷ 5 ∷ 4 ∷ 6 ∷ 6 ∷ []

-- "DIV, MOD 73,73,71,73,71,70,72,72."
unfoldable pub div_states : List ℕ
div_states = 73 ∷ 73 ∷ 71 ∷ 73 ∷ 71 ∷ 70 ∷ 72 ∷ 72 ∷ []

-- "Shift by n: 8,8,6,8,6,5,7,7 plus n."
unfoldable pub shift_states : List ℕ
shift_states = 8 ∷ 8 ∷ 6 ∷ 8 ∷ 6 ∷ 5 ∷ 7 ∷ 7 ∷ []

unfoldable pub row : ℕ → ℕ → List ℕ → List ℕ → RdUse → Privilege → DataAccess → Flow → Row
row b c ms ts rd p a f =
    record { byte = b; code = c; modes = ms; states = ts; rd = rd; privilege = p; access = a; flow = f }

-- "LD 08h, ADD 18h, ... all eight; ST 10h 0, 1, 3, 6, 7; jumps A0h and CALL A8h 0, 1; IN B0h and OUT B8h 0, 6. Single bytes: NO 00h, LD
-- Rd,FLAG 14h, PUSH C0h, POP C4h, RET D0h, RETI D4h, SVC F0h, HALT FFh."
-- "LD 7,7,5,7,4,4,6,6. ... ADDS 8,8,6,8,6,5,7,7. MUL 57,57,55,57,55,54,56,56. ... ST 6,6,6,5,5 for its modes. Jump 5 taken, 4 not. CALL 6, IN 7
-- and 6, OUT 6 and 5, NO 3, LD FLAG 4, PUSH 5, POP 6, RET 6, RETI 9, SVC 12, HALT 5."
-- "RETI and HALT need P=1; IN and OUT need P=1 or I=1 (H)."
-- Used register fields: Rd of LD, ST, LD FLAG, ADD to SHRL, IN, OUT, PUSH and POP.
unfoldable pub rows : List Row
rows =
    row 0x08 LD eight (7 ∷ 7 ∷ 5 ∷ 7 ∷ 4 ∷ 4 ∷ 6 ∷ 6 ∷ []) register Anyone Source Next
    ∷ row 0x18 ADD eight add_states register Anyone Source Next
    ∷ row 0x20 SUB eight add_states register Anyone Source Next
    ∷ row 0x28 CMP eight add_states register Anyone Source Next
    ∷ row 0x30 AND eight add_states register Anyone Source Next
    ∷ row 0x38 OR eight add_states register Anyone Source Next
    ∷ row 0x40 XOR eight add_states register Anyone Source Next
    ∷ row 0x48 ADDS eight (8 ∷ 8 ∷ 6 ∷ 8 ∷ 6 ∷ 5 ∷ 7 ∷ 7 ∷ []) register Anyone Source Next
    ∷ row 0x50 MUL eight (57 ∷ 57 ∷ 55 ∷ 57 ∷ 55 ∷ 54 ∷ 56 ∷ 56 ∷ []) register Anyone Source Next
    ∷ row 0x58 DIV eight div_states register Anyone Source Divide
    ∷ row 0x60 MOD eight div_states register Anyone Source Divide
    ∷ row 0x80 SHLA eight shift_states register Anyone Source Shift
    ∷ row 0x88 SHLL eight shift_states register Anyone Source Shift
    ∷ row 0x90 SHRA eight shift_states register Anyone Source Shift
    ∷ row 0x98 SHRL eight shift_states register Anyone Source Shift
    ∷ row 0x10 ST (0 ∷ 1 ∷ 3 ∷ 6 ∷ 7 ∷ []) (6 ∷ 6 ∷ 6 ∷ 5 ∷ 5 ∷ []) register Anyone Destination Next
    ∷ row 0xa0 JUMP (0 ∷ 1 ∷ []) (4 ∷ 4 ∷ []) condition Anyone None Jump
    ∷ row 0xa8 CALL (0 ∷ 1 ∷ []) (6 ∷ 6 ∷ []) unused Anyone Push Call
    ∷ row 0xb0 IN (0 ∷ 6 ∷ []) (7 ∷ 6 ∷ []) register Ports None Next
    ∷ row 0xb8 OUT (0 ∷ 6 ∷ []) (6 ∷ 5 ∷ []) register Ports None Next
    ∷ row 0x00 NO single (3 ∷ []) unused Anyone None Next
    ∷ row 0x14 LDFLAG single (4 ∷ []) register Anyone Flag Next
    ∷ row 0xc0 PUSH single (5 ∷ []) register Anyone Push Next
    ∷ row 0xc4 POP single (6 ∷ []) register Anyone Pop Next
    ∷ row 0xd0 RET single (6 ∷ []) unused Anyone Pop Return
    ∷ row 0xd4 RETI single (9 ∷ []) unused Kernel PopTwo Resume
    ∷ row 0xf0 SVC single (12 ∷ []) unused Anyone None Trap
    ∷ row 0xff HALT single (5 ∷ []) unused Kernel None Next
    ∷ []
