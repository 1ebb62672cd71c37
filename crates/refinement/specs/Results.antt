-- S and Z of every result are those of its value.
-- Assumes nothing.
use Rattle.std.specs.Prelude.{Bool, cond, false, true, refl, ◌≡◌, ℕ}
use Rattle.alu.specs.Alu.{add_of, adds_of, and_of, div_of, mod_of, mul_of, or_of, shl_of, shra_of, shrl_of, sign_of, sub_of, xor_of, zero_of}
use Rattle.alu.specs.declared.Alu.{Alu}
use Rattle.plan.specs.Result.{alu_of}

pub record ByValue (r : Alu) : Type 0 where
  pub s : r.s ≡ sign_of r.value
  pub z : r.z ≡ zero_of r.value

pub difference_by_value : (a b : ℕ) → ByValue (sub_of a b)
unfolding sub_of
difference_by_value a b = record { s = refl; z = refl }

cond_by_value : (t : Bool) (x y : Alu) → ByValue x → ByValue y → ByValue (cond t x y)
cond_by_value true x y p q = p
cond_by_value false x y p q = q

pub result_by_value : (code a b : ℕ) → ByValue (alu_of code a b)
unfolding alu_of add_of adds_of and_of div_of mod_of mul_of or_of shl_of shra_of shrl_of sub_of xor_of
result_by_value code a b = search (cond_by_value) depth 14
