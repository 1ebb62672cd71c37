-- The instructions from ADD to SHRL that are carried out here, and their states.
-- Assumes nothing.
use Rattle.std.specs.Prelude.{cond, suc, zero, ℕ, ◌<◌, eqb}
use Rattle.std.proofs.Common.{arith}
use Rattle.decode.specs.Code.{ADD, ADDS, AND, CMP, DIV, MOD, MUL, OR, SHLA, SHLL, SHRA, SHRL, SUB, XOR}
use Rattle.decode.specs.Instructions.{add_states, eight}
use Rattle.decode.specs.Opcode.{states_at}
use Rattle.decode.specs.declared.Flow.{Flow}
use Rattle.decode.specs.declared.Flow.TheVariants.{Divide, Next, Shift}

-- the states of ADD and of LD
unfoldable pub add_cost : ℕ → ℕ
add_cost mode = states_at mode eight add_states

unfoldable pub load_cost : ℕ → ℕ
load_cost mode = cond (eqb mode 4) 4 (add_cost mode)

-- the instructions from ADD to SHRL: the number, how it goes on, and its states beyond those of ADD
pub data Computes : ℕ → Flow → ℕ → Type 0 where
  add : Computes ADD Next 0
  sub : Computes SUB Next 0
  cmp : Computes CMP Next 0
  and : Computes AND Next 0
  or : Computes OR Next 0
  xor : Computes XOR Next 0
  adds : Computes ADDS Next 1
  mul : Computes MUL Next 50
  div : Computes DIV Divide 66
  modulo : Computes MOD Divide 66
  shla : Computes SHLA Shift 1
  shll : Computes SHLL Shift 1
  shra : Computes SHRA Shift 1
  shrl : Computes SHRL Shift 1

pub below_eight : (P : ℕ → Type 0) → P 0 → P 1 → P 2 → P 3 → P 4 → P 5 → P 6 → P 7 → (n : ℕ) → n < 8 → P n
below_eight P a b c d e f g h zero l = a
below_eight P a b c d e f g h (suc zero) l = b
below_eight P a b c d e f g h (suc (suc zero)) l = c
below_eight P a b c d e f g h (suc (suc (suc zero))) l = d
below_eight P a b c d e f g h (suc (suc (suc (suc zero)))) l = e
below_eight P a b c d e f g h (suc (suc (suc (suc (suc zero))))) l = f
below_eight P a b c d e f g h (suc (suc (suc (suc (suc (suc zero)))))) l = g
below_eight P a b c d e f g h (suc (suc (suc (suc (suc (suc (suc zero))))))) l = h
below_eight P a b c d e f g h (suc (suc (suc (suc (suc (suc (suc (suc n)))))))) l = absurd (omega arith)
