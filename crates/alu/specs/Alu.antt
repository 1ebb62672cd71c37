-- Results and flags of the instructions from ADD to SHRL. Document 01, "Results and flags". `a` is Rd, `b` the source.
-- Assumes nothing.
use Rattle.std.specs.Prelude.{Bool, cond, false, not, ℕ, ◌+◌, ◌*◌, ◌/◌, ◌%◌, ◌^◌, eqb, leb, ltb, ◌+ℤ◌, ◌-ℤ◌}
use Rattle.std.specs.Int.Bits.{bit_and, bit_or, bit_xor}
use Rattle.std.specs.Int.Signed.{shr_z}
use Rattle.word.specs.Signed.{in_word, signed, word}
use Rattle.word.specs.Word.{minus, plus, wrap}
use Rattle.alu.specs.declared.Alu.{Alu}

-- "set S and Z from the 16-bit result"
abbrev pub sign_of : ℕ → Bool
sign_of result = leb 32768 result

abbrev pub zero_of : ℕ → Bool
zero_of result = eqb result 0

abbrev pub alu : ℕ → Bool → Bool → Alu
alu result overflow carry =
    record { value = result; v = overflow; c = carry; s = sign_of result; z = zero_of result }

-- "V=C=0"
abbrev pub plain : ℕ → Alu
plain result = alu result false false

-- "ADD, SUB, CMP: C is carry or borrow, V signed overflow"
unfoldable pub add_of : ℕ → ℕ → Alu
add_of a b = alu (plus a b) (not (in_word (signed a +ℤ signed b))) (leb 65536 (a + b))

unfoldable pub sub_of : ℕ → ℕ → Alu
sub_of a b = alu (minus a b) (not (in_word (signed a -ℤ signed b))) (ltb a b)

-- "AND, OR, XOR, MUL, DIV, MOD: V=C=0, unsigned"
unfoldable pub and_of : ℕ → ℕ → Alu
and_of a b = plain (bit_and a b)

unfoldable pub or_of : ℕ → ℕ → Alu
or_of a b = plain (bit_or a b)

unfoldable pub xor_of : ℕ → ℕ → Alu
xor_of a b = plain (bit_xor a b)

-- "ADDS adds twice the source; V=0; the manual leaves C open, here 0 (H)"
unfoldable pub adds_of : ℕ → ℕ → Alu
adds_of a b = plain (wrap (a + 2 * b))

-- "MUL keeps the lower word"
unfoldable pub mul_of : ℕ → ℕ → Alu
mul_of a b = plain (wrap (a * b))

-- No instruction divides by 0: that is fault 12. Here it gives 0.
unfoldable pub div_of : ℕ → ℕ → Alu
div_of a b = plain (cond (eqb b 0) 0 (a / b))

unfoldable pub mod_of : ℕ → ℕ → Alu
mod_of a b = plain (cond (eqb b 0) 0 (a % b))

-- "Shifts go by the source's lower four bits"
abbrev pub places : ℕ → ℕ
places b = b % 16

-- "C is the old top bit for left shifts, the old bottom bit for right shifts, also for a shift by 0"
abbrev pub top_bit : ℕ → Bool
top_bit a = leb 32768 a

abbrev pub bottom_bit : ℕ → Bool
bottom_bit a = eqb (a % 2) 1

-- SHLA and SHLL
unfoldable pub shl_of : ℕ → ℕ → Alu
shl_of a b = alu (wrap (a * 2 ^ places b)) false (top_bit a)

-- SHRA: the signed number, divided and rounded down
unfoldable pub shra_of : ℕ → ℕ → Alu
shra_of a b = alu (word (shr_z (signed a) (2 ^ places b))) false (bottom_bit a)

-- SHRL
unfoldable pub shrl_of : ℕ → ℕ → Alu
shrl_of a b = alu (a / 2 ^ places b) false (bottom_bit a)
