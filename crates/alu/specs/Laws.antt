-- Each result is a word.
-- Assumes nothing.
use Rattle.std.specs.Prelude.{Bool, cond, false, true, ℕ, ◌/◌, ◌%◌, ◌^◌, ◌<◌, eqb}
use Rattle.std.proofs.Common.{div-le_self, lt_of_le_of_lt, arith}
use Rattle.std.proofs.Math.Nat.{mod-le}
use Rattle.std.proofs.lemmas.Nat.{and_le_l, or_lt, xor_lt}
use Rattle.std.specs.Int.Signed.{mag, mag_shr, shr_z}
use Rattle.word.specs.Laws.{signed_mag, word_fits, wrap_fits}
use Rattle.word.specs.Signed.{signed}
use Rattle.alu.specs.Alu.{add_of, adds_of, and_of, div_of, mod_of, mul_of, or_of, places, shl_of, shra_of, shrl_of, sub_of, xor_of}

pub add_of_fits : (a b : ℕ) → (add_of a b).value < 65536
unfolding add_of
add_of_fits a b = wrap_fits _

pub sub_of_fits : (a b : ℕ) → (sub_of a b).value < 65536
unfolding sub_of
sub_of_fits a b = wrap_fits _

pub and_of_fits : (a b : ℕ) → a < 65536 → (and_of a b).value < 65536
unfolding and_of
and_of_fits a b h = lt_of_le_of_lt (and_le_l a b) h

pub or_of_fits : (a b : ℕ) → a < 65536 → b < 65536 → (or_of a b).value < 65536
unfolding or_of
or_of_fits a b h k = or_lt 16 a b h k

pub xor_of_fits : (a b : ℕ) → a < 65536 → b < 65536 → (xor_of a b).value < 65536
unfolding xor_of
xor_of_fits a b h k = xor_lt 16 a b h k

pub adds_of_fits : (a b : ℕ) → (adds_of a b).value < 65536
unfolding adds_of
adds_of_fits a b = wrap_fits _

pub mul_of_fits : (a b : ℕ) → (mul_of a b).value < 65536
unfolding mul_of
mul_of_fits a b = wrap_fits _

-- 0, or a number that fits
or_zero : (t : Bool) (n : ℕ) → n < 65536 → cond t 0 n < 65536
or_zero true n h = omega arith
or_zero false n h = h

pub div_of_fits : (a b : ℕ) → a < 65536 → (div_of a b).value < 65536
unfolding div_of
div_of_fits a b h = or_zero (eqb b 0) (a / b) (lt_of_le_of_lt (div-le_self a b) h)

pub mod_of_fits : (a b : ℕ) → a < 65536 → (mod_of a b).value < 65536
unfolding mod_of
mod_of_fits a b h = or_zero (eqb b 0) (a % b) (lt_of_le_of_lt (mod-le a b) h)

pub shl_of_fits : (a b : ℕ) → (shl_of a b).value < 65536
unfolding shl_of
shl_of_fits a b = wrap_fits _

-- a signed number that is shifted to the right is still one of 16 bits
pub shr_mag : (a n : ℕ) → a < 65536 → mag (shr_z (signed a) n) < 32768
shr_mag a n h = lt_of_le_of_lt (mag_shr (signed a) n) (signed_mag a h)

pub shra_of_fits : (a b : ℕ) → a < 65536 → (shra_of a b).value < 65536
unfolding shra_of
shra_of_fits a b h = word_fits (shr_z (signed a) (2 ^ places b)) (shr_mag a (2 ^ places b) h)

pub shrl_of_fits : (a b : ℕ) → a < 65536 → (shrl_of a b).value < 65536
unfolding shrl_of
shrl_of_fits a b h = lt_of_le_of_lt (div-le_self a (2 ^ places b)) h
