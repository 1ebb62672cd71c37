-- Words: numbers of 16 bits, below 65536. Document 01, "Registers and state image".
-- Assumes nothing.
use Rattle.std.specs.Prelude.{ℕ, ◌+◌, ◌-◌, ◌*◌, ◌/◌, ◌%◌, ◌^◌, Bool, ◌==◌}

-- "addition and subtraction on words and addresses wrap at 65,536"
abbrev pub wrap : ℕ → ℕ
wrap n = n % 65536

abbrev pub plus : ℕ → ℕ → ℕ
plus a b = wrap (a + b)

-- b is a word: what b added to wraps back to a
abbrev pub minus : ℕ → ℕ → ℕ
minus a b = wrap (a + (65536 - b))

-- "The even byte of a word is its upper half."
abbrev pub upper : ℕ → ℕ
upper w = w / 256

abbrev pub lower : ℕ → ℕ
lower w = w % 256

abbrev pub halves : ℕ → ℕ → ℕ
halves high low = high * 256 + low

-- bit k of a word, 0 or 1
abbrev pub bit : ℕ → ℕ → ℕ
bit k w = w / 2 ^ k % 2

abbrev pub is_set : ℕ → ℕ → Bool
is_set k w = bit k w == 1
