-- Which values of a timer's words are good: the tests and what they say of the numbers, each way.
-- Assumes nothing.
use Rattle.std.specs.Prelude.{true, ◌≡◌, suc, zero, ℕ, ◌%◌, ◌-◌, ◌/◌, ◌≤◌}
use Rattle.std.proofs.Common.{arith, eq-eqb, eqb-true, lt-ltb, ltb-true}
use Rattle.std.proofs.Math.Dec.{eqb-suc-zero}
use Rattle.layout.specs.Valid.{control_good, count_good}

pub control_good_lem : (w : ℕ) → w % 32768 / 2 ≡ 0 → control_good w ≡ true
unfolding control_good
control_good_lem w e = eq-eqb (w % 32768 / 2) 0 e

pub control_bits : (w : ℕ) → control_good w ≡ true → w % 32768 / 2 ≡ 0
unfolding control_good
control_bits w e = eqb-true (w % 32768 / 2) 0 e

-- a period of 0 has the one count 0, as `0 - 1` is 0
pub count_good_lem : (c p : ℕ) → c ≤ p - 1 → count_good c p ≡ true
unfolding count_good
count_good_lem c zero h = eq-eqb c 0 (omega arith)
count_good_lem c (suc p) h = rw (eqb-suc-zero p) (lt-ltb c (suc p) (omega arith))

pub count_below : (c p : ℕ) → count_good c p ≡ true → c ≤ p - 1
unfolding count_good
count_below c zero e = omega (arith, eqb-true c 0 e)
count_below c (suc p) e = omega (arith, ltb-true c (suc p) (rw (eqb-suc-zero p) at e))
