-- The result of an instruction, by its number. Document 01, "Results and flags".
-- Assumes nothing.
use Rattle.std.specs.Prelude.{cond, ℕ, eqb}
use Rattle.alu.specs.Alu.{add_of, adds_of, and_of, div_of, mod_of, mul_of, or_of, shl_of, shra_of, shrl_of, sub_of, xor_of}
use Rattle.alu.specs.declared.Alu.{Alu}
use Rattle.decode.specs.Code.{ADD, ADDS, AND, DIV, MOD, MUL, OR, SHRA, SHRL, SUB, XOR}

-- the result and the flags of an instruction from ADD to SHRL but CMP, which has those of SUB
unfoldable pub alu_of : ℕ → ℕ → ℕ → Alu
alu_of code a b =
    cond (eqb code ADD) (add_of a b)
    (cond (eqb code SUB) (sub_of a b)
    (cond (eqb code AND) (and_of a b)
    (cond (eqb code OR) (or_of a b)
    (cond (eqb code XOR) (xor_of a b)
    (cond (eqb code ADDS) (adds_of a b)
    (cond (eqb code MUL) (mul_of a b)
    (cond (eqb code DIV) (div_of a b)
    (cond (eqb code MOD) (mod_of a b)
    (cond (eqb code SHRA) (shra_of a b)
    (cond (eqb code SHRL) (shrl_of a b)
    (shl_of a b)))))))))))
