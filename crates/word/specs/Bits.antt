-- Laws of the bits of numbers.
-- Assumes nothing.
use Rattle.std.specs.Prelude.{◌≡◌, ℕ, zero, suc, ◌/◌, ◌%◌, ◌≤◌, max, bit_or}
use Rattle.std.proofs.Common.{ap, sym, ◌∙◌, arith}
use Rattle.std.proofs.Math.Nat.{max-le, max-zero, suc-max-suc, zero-max}
use Rattle.std.proofs.Math.Arith.{bin_ind}
use Rattle.std.proofs.lemmas.Nat.{or_comm}
use Rattle.std.specs.Int.Bits.{or_step, or_zero_l}

max_assoc : (x y z : ℕ) → max (max x y) z ≡ max x (max y z)
max_assoc zero y z = rw (zero-max y, zero-max (max y z))
max_assoc (suc x) zero z = rw (max-zero (suc x), zero-max z)
max_assoc (suc x) (suc y) zero = rw (suc-max-suc x y, max-zero (suc (max x y)), max-zero (suc y), suc-max-suc x y)
max_assoc (suc x) (suc y) (suc z) =
    rw (suc-max-suc x y, suc-max-suc (max x y) z, suc-max-suc y z, suc-max-suc x (max y z)) (ap suc (max_assoc x y z))

-- the half and the last digit
digit : (a b : ℕ) → max (a % 2) (b % 2) ≤ 1
digit a b = max-le (omega arith) (omega arith)

or_half : (a b : ℕ) → bit_or a b / 2 ≡ bit_or (a / 2) (b / 2)
or_half a b = omega (arith, or_step a b, digit a b)

or_odd : (a b : ℕ) → bit_or a b % 2 ≡ max (a % 2) (b % 2)
or_odd a b = omega (arith, or_step a b, digit a b)

pub or_assoc : (a b c : ℕ) → bit_or (bit_or a b) c ≡ bit_or a (bit_or b c)
or_assoc =
    bin_ind (λ (n : ℕ). (b c : ℕ) → bit_or (bit_or n b) c ≡ bit_or n (bit_or b c)) (λ b c. rw (or_zero_l b, or_zero_l (bit_or b c)))
    (λ n ih b c.
    or_step (bit_or n b) c
    ∙ rw (or_half n b, or_odd n b, ih (b / 2) (c / 2), max_assoc (n % 2) (b % 2) (c % 2), ← or_half b c, ← or_odd b c)
    (sym (or_step n (bit_or b c))))

-- the two in the middle in the other order
pub or_exchange : (a b c d : ℕ) → bit_or (bit_or a b) (bit_or c d) ≡ bit_or (bit_or a c) (bit_or b d)
or_exchange a b c d =
    or_assoc a b (bit_or c d) ∙ ap (bit_or a) (sym (or_assoc b c d) ∙ ap (λ (x : ℕ). bit_or x d) (or_comm b c) ∙ or_assoc c b d) ∙ sym (or_assoc a c (bit_or b d))
