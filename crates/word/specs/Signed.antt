-- Words and four-bit fields as signed numbers, in two's complement. Document 01, "Instruction words" and "Results and flags".
-- Assumes nothing.
use Rattle.std.specs.Prelude.{ℕ, ◌-◌, ◌%◌, Bool, ℤ, pos, negsuc, nat_lt}
use Rattle.std.specs.Int.Signed.{mag}
use Rattle.std.specs.Int.{w16}
use mir.Val.{of_z, sel, to_z}

-- the signed number whose bits are the word's, -32768 to 32767
abbrev pub signed : ℕ → ℤ
signed w = to_z w16 w

-- the word that has the bits of a signed number
abbrev pub word : ℤ → ℕ
word z = of_z w16 z

-- z is a signed number of 16 bits. `mag z` is n both for n and for -(n + 1)
abbrev pub in_word : ℤ → Bool
in_word z = nat_lt (mag z) 32768

-- "D4 and the four-bit immediate are signed, -8 to 7": the lowest four bits, in two's complement
unfoldable pub signed4 : ℕ → ℤ
signed4 n = sel (nat_lt (n % 16) 8) (pos (n % 16)) (negsuc (15 - n % 16))
