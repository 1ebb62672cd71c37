-- Laws of refusals, in which the number of the causes does not occur.
-- Assumes nothing.
use Rattle.std.specs.Prelude.{Bool, cond, false, true, refl, ◌≡◌, ℕ, ◌≤◌, leb, Err, Ok}
use Rattle.std.specs.Result.{result_and}
use Rattle.std.proofs.Common.{arith, le-leb, leb-true}
use Rattle.word.specs.Cases.{rest, this}
use Rattle.refusal.specs.Refusal.{Validity, and_then, between, cause_number}
use Rattle.refusal.specs.declared.Cause.{Cause}
use Rattle.refusal.specs.declared.Cause.TheVariants.{CardLength, CommandBeyond, CommandShort, CommandUnknown, ImageField, ImageLength, MemoryLength, ReportLength, WinderSetting, WindowWidth}
use Rattle.refusal.specs.declared.Refusal.{Refusal}

-- a refusal is not good
pub not_good : {A : Type 0} (r : Refusal) → ◌≡◌ {A = Validity} (Err r) (Ok tt) → A
not_good r e = let z : ◌≡◌ {A = ℕ} 0 1 = cc in absurd (omega arith)

-- both tests were passed
pub then_good : (v w : Validity) → and_then v w ≡ Ok tt → (v ≡ Ok tt) × (w ≡ Ok tt)
then_good (Err r) w e = not_good r e
then_good (Ok u) w e = (refl, e)

-- a test by a truth value was passed
pub test_good : (b : Bool) (v : Validity) (r : Refusal) → cond b v (Err r) ≡ Ok tt → (b ≡ true) × (v ≡ Ok tt)
test_good true v r e = (refl, e)
test_good false v r e = not_good r e

-- `Result::and` is one test after the other
pub and_is : (v w : Validity) → result_and v w ≡ and_then v w
and_is (Err r) w = refl
and_is (Ok u) w = refl

-- a number within its bounds: it is one that is taken
pub record Range (low high x : ℕ) : Type 0 where
  pub least : low ≤ x
  pub most : x ≤ high

pub between_range : (low high x : ℕ) → between low high x ≡ true → Range low high x
between_range low high x e =
    record { least = leb-true low x (this (leb low x) (leb x high) e); most = leb-true x high (rest (leb low x) (leb x high) e) }

pub range_between : (low high x : ℕ) → Range low high x → between low high x ≡ true
range_between low high x r = rw (le-leb low x r.least, le-leb x high r.most)

-- numbers begin at 1
pub number_positive : (c : Cause) → 1 ≤ cause_number c
number_positive MemoryLength = omega arith
number_positive ImageLength = omega arith
number_positive ImageField = omega arith
number_positive CardLength = omega arith
number_positive CommandUnknown = omega arith
number_positive CommandShort = omega arith
number_positive CommandBeyond = omega arith
number_positive ReportLength = omega arith
number_positive WinderSetting = omega arith
number_positive WindowWidth = omega arith
