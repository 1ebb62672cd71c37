-- The first bytes of the instructions that are carried out on hot states.
-- Assumes nothing.
use Rattle.std.specs.Prelude.{List, [], ◌∷◌, refl, ◌≡◌, ℕ, suc, zero, ◌*◌, ◌+◌, ◌<◌, get_or}
use Rattle.std.proofs.Common.{ap, arith}
use Rattle.decode.specs.Code.{ADD, ADDS, AND, CALL, CMP, DIV, JUMP, LD, MOD, MUL, OR, SHLA, SHLL, SHRA, SHRL, ST, SUB, XOR}
use Rattle.decode.specs.Instructions.{RdUse, Row, add_states, condition, div_states, eight, register, row, rows, shift_states, single, unused}
use Rattle.decode.specs.Opcode.{cost_of, in_modes, in_rows, known, mode_bits, opcode_of, states_at}
use Rattle.decode.specs.declared.DataAccess.{DataAccess}
use Rattle.decode.specs.declared.DataAccess.TheVariants as data-access
use Rattle.decode.specs.declared.Flow.{Flow}
use Rattle.decode.specs.declared.Flow.TheVariants as flow
use Rattle.decode.specs.declared.Privilege.TheVariants.{Anyone}
use Rattle.source.specs.Rows.{Computes, add, add_cost, adds, and, below_eight, cmp, div, load_cost, modulo, mul, or, shla, shll, shra, shrl, sub, xor}
use Rattle.hot.specs.Tells.{Stores, byte_indirect, direct, framed, indexed, indirect}

-- a first byte is that of an instruction that anyone may use
pub record Opens (byte code mode : ℕ) (field : RdUse) (access : DataAccess) (flow : Flow) (cost : ℕ) : Type 0 where
  pub row : Row
  pub opcode : opcode_of byte ≡ known row mode
  pub privilege : row.privilege ≡ Anyone
  pub number : row.code ≡ code
  pub rd : row.rd ≡ field
  pub accesses : row.access ≡ access
  pub flows : row.flow ≡ flow
  pub states : cost_of row mode ≡ cost

pub opens : {byte mode : ℕ} (r : Row) → opcode_of byte ≡ known r mode → r.privilege ≡ Anyone → Opens byte r.code mode r.rd r.access r.flow (cost_of r mode)
opens r e p =
    record { row = r; opcode = e; privilege = p; number = refl; rd = refl; accesses = refl; flows = refl; states = refl }

-- the eight modes at once
abbrev in_eight : {A : Type 0} → (ℕ → A) → List A
in_eight f = f 0 ∷ f 1 ∷ f 2 ∷ f 3 ∷ f 4 ∷ f 5 ∷ f 6 ∷ f 7 ∷ []

each_mode : {A : Type 0} (f g : ℕ → A) → in_eight f ≡ in_eight g → (mode : ℕ) → mode < 8 → f mode ≡ g mode
each_mode {A} f g e = below_eight (λ m. f m ≡ g m) (at 0) (at 1) (at 2) (at 3) (at 4) (at 5) (at 6) (at 7)
  where
    at : (k : ℕ) → get_or (in_eight f) k (f 0) ≡ get_or (in_eight g) k (f 0)
    at k = ap (λ (xs : List A). get_or xs k (f 0)) e

row_opens :
    (code : ℕ) (cost : ℕ → ℕ) (r : Row) → in_eight (λ m. opcode_of (code * 8 + m)) ≡ in_eight (known r) → in_eight (cost_of r) ≡ in_eight cost
    → r.privilege ≡ Anyone → (mode : ℕ) → mode < 8 → Opens (code * 8 + mode) r.code mode r.rd r.access r.flow (cost mode)
row_opens code cost r e s p mode l =
    record {
      row = r;
      opcode = each_mode (λ m. opcode_of (code * 8 + m)) (known r) e mode l;
      privilege = p;
      number = refl;
      rd = refl;
      accesses = refl;
      flows = refl;
      states = each_mode (cost_of r) cost s mode l;
    }

pub opens_load : (mode : ℕ) → mode < 8 → Opens (LD * 8 + mode) LD mode register data-access.Source flow.Next (load_cost mode)
unfolding opcode_of in_rows in_modes mode_bits rows row eight single add_states div_states shift_states cost_of states_at add_cost load_cost
opens_load = row_opens LD load_cost _ refl refl refl

pub opens_compute :
    {code extra : ℕ} {flow : Flow} → Computes code flow extra → (mode : ℕ) → mode < 8
    → Opens (code * 8 + mode) code mode register data-access.Source flow (add_cost mode + extra)
unfolding opcode_of in_rows in_modes mode_bits rows row eight single add_states div_states shift_states cost_of states_at add_cost
opens_compute add = row_opens ADD (λ m. add_cost m + 0) _ refl refl refl
opens_compute sub = row_opens SUB (λ m. add_cost m + 0) _ refl refl refl
opens_compute cmp = row_opens CMP (λ m. add_cost m + 0) _ refl refl refl
opens_compute and = row_opens AND (λ m. add_cost m + 0) _ refl refl refl
opens_compute or = row_opens OR (λ m. add_cost m + 0) _ refl refl refl
opens_compute xor = row_opens XOR (λ m. add_cost m + 0) _ refl refl refl
opens_compute adds = row_opens ADDS (λ m. add_cost m + 1) _ refl refl refl
opens_compute mul = row_opens MUL (λ m. add_cost m + 50) _ refl refl refl
opens_compute div = row_opens DIV (λ m. add_cost m + 66) _ refl refl refl
opens_compute modulo = row_opens MOD (λ m. add_cost m + 66) _ refl refl refl
opens_compute shla = row_opens SHLA (λ m. add_cost m + 1) _ refl refl refl
opens_compute shll = row_opens SHLL (λ m. add_cost m + 1) _ refl refl refl
opens_compute shra = row_opens SHRA (λ m. add_cost m + 1) _ refl refl refl
opens_compute shrl = row_opens SHRL (λ m. add_cost m + 1) _ refl refl refl

pub opens_jump : (mode : ℕ) → mode < 2 → Opens (JUMP * 8 + mode) JUMP mode condition data-access.None flow.Jump 4
unfolding opcode_of in_rows in_modes mode_bits rows row eight single add_states div_states shift_states cost_of states_at
opens_jump zero l = opens _ refl refl
opens_jump (suc zero) l = opens _ refl refl
opens_jump (suc (suc n)) l = absurd (omega arith)

pub opens_call : (mode : ℕ) → mode < 2 → Opens (CALL * 8 + mode) CALL mode unused data-access.Push flow.Call 6
unfolding opcode_of in_rows in_modes mode_bits rows row eight single add_states div_states shift_states cost_of states_at
opens_call zero l = opens _ refl refl
opens_call (suc zero) l = opens _ refl refl
opens_call (suc (suc n)) l = absurd (omega arith)

pub opens_store : {mode cost : ℕ} → Stores mode cost → Opens (ST * 8 + mode) ST mode register data-access.Destination flow.Next cost
unfolding opcode_of in_rows in_modes mode_bits rows row eight single add_states div_states shift_states cost_of states_at
opens_store direct = opens _ refl refl
opens_store indexed = opens _ refl refl
opens_store framed = opens _ refl refl
opens_store indirect = opens _ refl refl
opens_store byte_indirect = opens _ refl refl
