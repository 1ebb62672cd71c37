-- Bytes and numbers as text, in ASCII.
-- Assumes nothing.
use Rattle.std.specs.Prelude.{cond, List, [], ◌++◌, ◌∷◌, suc, zero, ℕ, ◌%◌, ◌+◌, ◌-◌, ◌/◌, ltb}
use Prim.Native.Char.{code}
use Prim.Native.String.{String}
use Prim.Native.String as text

-- the bytes of a text
abbrev pub ascii : String → List ℕ
ascii text.[] = []
ascii (text.◌∷◌ c s) = code c ∷ ascii s

-- a digit below 16: `0` to `9`, then `A` to `F`
abbrev pub digit_of : ℕ → ℕ
digit_of d = cond (ltb d 10) (code "0" + d) (code "A" + (d - 10))

-- the decimal digits of a number below 10 ^ k, with no zero in front
unfoldable pub decimal_of : ℕ → ℕ → List ℕ
decimal_of zero n = []
decimal_of (suc k) n = cond (ltb n 10) (digit_of n ∷ []) (decimal_of k (n / 10) ++ (digit_of (n % 10) ∷ []))

-- "four digits, capitals"
unfoldable pub hex_of : ℕ → List ℕ
hex_of w = digit_of (w / 4096 % 16) ∷ digit_of (w / 256 % 16) ∷ digit_of (w / 16 % 16) ∷ digit_of (w % 16) ∷ []
