-- The arms, each by its law.
-- Assumes nothing.
use Rattle.std.specs.Prelude.{Bool, false, true, List, refl, ◌≡◌, ℕ, ◌+◌, ◌/◌, ◌<◌, ◌≤◌, eqb, get_or, length, set}
use Rattle.std.proofs.Common.{ap, ◌∙◌, arith, length-set}
use Rattle.std.proofs.lemmas.Bool.{eqb-false, eqb-true}
use Rattle.decode.specs.Code.{CMP, LD, SHLA, SHLL}
use Rattle.decode.specs.Decode.{rd_field}
use Rattle.decode.specs.Instructions.{add_states, eight}
use Rattle.decode.specs.Opcode.{states_at}
use Rattle.decode.specs.declared.Flow.TheVariants as flow
use Rattle.plan.specs.Result.{alu_of}
use Rattle.alu.specs.Alu.{places, shl_of, sub_of}
use Rattle.alu.specs.declared.Alu.{Alu}
use Rattle.source.specs.Fields.{mode_of}
use Rattle.source.specs.Rows.{Computes, add_cost, below_eight, load_cost, shla, shll}
use Rattle.hot.specs.Tells.{Divided, Operates, act, by_zero, compare, compute, divide, flagged, load, quotient, shift, stay, to}
use Rattle.hot.specs.declared.Hot.{Hot}
use Rattle.source.specs.declared.operand.Source.{Source}

-- the states of ADD in any mode
pub cost_above : (mode : ℕ) → mode < 8 → 3 < add_cost mode
unfolding add_cost states_at eight add_states
cost_above =
    below_eight (λ m. 3 < add_cost m) (omega arith) (omega arith) (omega arith) (omega arith) (omega arith) (omega arith) (omega arith) (omega arith)

pub cost_below : (mode : ℕ) → mode < 8 → add_cost mode < 8
unfolding add_cost states_at eight add_states
cost_below =
    below_eight (λ m. add_cost m < 8) (omega arith) (omega arith) (omega arith) (omega arith) (omega arith) (omega arith) (omega arith) (omega arith)

pub load_above : (mode : ℕ) → mode < 8 → 0 < load_cost mode
unfolding add_cost load_cost states_at eight add_states
load_above =
    below_eight (λ m. 0 < load_cost m) (omega arith) (omega arith) (omega arith) (omega arith) (omega arith) (omega arith) (omega arith) (omega arith)

pub load_below : (mode : ℕ) → mode < 8 → load_cost mode < 8
unfolding add_cost load_cost states_at eight add_states
load_below =
    below_eight (λ m. load_cost m < 8) (omega arith) (omega arith) (omega arith) (omega arith) (omega arith) (omega arith) (omega arith) (omega arith)

-- the two shifts to the left
pub shl_computes : (code : ℕ) → SHLA ≤ code → code < SHLL + 1 → Computes code flow.Shift 1 × ((a b : ℕ) → alu_of code a b ≡ shl_of a b)
unfolding alu_of
shl_computes code l k = by (eqb code SHLA) refl
  where
    by : (t : Bool) → eqb code SHLA ≡ t → Computes code flow.Shift 1 × ((a b : ℕ) → alu_of code a b ≡ shl_of a b)
    by true e = rw (eqb-true code SHLA e) (shla, λ a b. refl)
    by false e = let q : code ≡ SHLL = omega (arith, eqb-false code SHLA e) in rw q (shll, λ a b. refl)

module _ (rs : List ℕ) (size : length rs ≡ 16) (h : Hot) (w : ℕ) (x : Source) (cost : x.cost ≡ add_cost (mode_of w)) (low : rd_field w < 14) (v : x.value < 65536) where
  sized : (n : ℕ) → length (set rs (rd_field w) n) ≡ 16
  sized n = length-set rs (rd_field w) n ∙ size

  mode_below : mode_of w < 8
  mode_below = omega arith

  pub load_operates :
      w / 2048 ≡ LD → (n : ℕ) → n ≡ load_cost (mode_of w) → 0 < n → n < 65536
      → Operates rs h w x (set rs (rd_field w) x.value) (to h x.next n)
  load_operates e n q l k = act l k size (sized x.value) low v (load e refl (ap (to h x.next) q))

  module _ (r : Alu) where
    pub compare_operates : w / 2048 ≡ CMP → r ≡ sub_of (get_or rs (rd_field w) 0) x.value → Operates rs h w x rs (flagged r x.next x.cost)
    compare_operates e q =
        let n : x.cost ≡ add_cost (mode_of w) + 0 = omega (arith, cost) in
        act (omega (arith, cost, cost_above (mode_of w) mode_below)) (omega (arith, cost, cost_below (mode_of w) mode_below)) size size low v
        (compare r e q refl (ap (flagged r x.next) n))

    module _ {code extra : ℕ} (q : r ≡ alu_of code (get_or rs (rd_field w) 0) x.value) (not-cmp : code ≡ CMP → ⊥) (e : w / 2048 ≡ code) (few : extra < 100) (n : ℕ) where
      abbrev Result : Type 0
      Result = Operates rs h w x (set rs (rd_field w) r.value) (flagged r x.next n)

      pub next_operates : Computes code flow.Next extra → n ≡ x.cost + extra → Result
      next_operates c k =
          let t : n ≡ add_cost (mode_of w) + extra = omega (arith, cost) in
          act (omega (arith, cost_above (mode_of w) mode_below)) (omega (arith, cost_below (mode_of w) mode_below)) size (sized r.value) low v
          (compute r c not-cmp e q refl (ap (flagged r x.next) t))

      pub divide_operates : Computes code flow.Divide extra → (x.value ≡ 0 → ⊥) → n ≡ x.cost + extra → Result
      divide_operates c z k =
          let t : n ≡ add_cost (mode_of w) + extra = omega (arith, cost) in
          act (omega (arith, cost_above (mode_of w) mode_below)) (omega (arith, cost_below (mode_of w) mode_below)) size (sized r.value) low v
          (divide r c not-cmp e z q refl (ap (flagged r x.next) t))

      pub shift_operates : Computes code flow.Shift extra → n ≡ x.cost + extra + places x.value → Result
      shift_operates c k =
          let t : n ≡ add_cost (mode_of w) + extra + places x.value = omega (arith, cost) in
          act (omega (arith, cost_above (mode_of w) mode_below)) (omega (arith, cost_below (mode_of w) mode_below)) size (sized r.value) low v
          (shift r c not-cmp e q refl (ap (flagged r x.next) t))

      pub divided_operates :
          Computes code flow.Divide extra → n ≡ x.cost + extra → {rs' : List ℕ} {y : Hot}
          → Divided rs h (rd_field w) x.value r x.next n rs' y → Operates rs h w x rs' y
      divided_operates c k (by_zero z p) = stay z p
      divided_operates c k (quotient z e p) = rw (e, p) (divide_operates c z k)
