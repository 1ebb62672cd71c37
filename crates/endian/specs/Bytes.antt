-- Words in bytes, "upper byte first".
-- Assumes nothing.
use Rattle.std.specs.Prelude.{List, [], ◌∷◌, suc, zero, ℕ, ◌%◌, ◌+◌, ◌/◌, get_or}
use Rattle.word.specs.Word.{halves}

abbrev pub byte_from : List ℕ → ℕ → ℕ
byte_from b at = get_or b at 0

-- the word at an offset
abbrev pub word_from : List ℕ → ℕ → ℕ
word_from b at = halves (get_or b at 0) (get_or b (at + 1) 0)

-- `n` words from an offset on
abbrev pub words_from : List ℕ → ℕ → ℕ → List ℕ
words_from b at zero = []
words_from b at (suc n) = word_from b at ∷ words_from b (at + 2) n

-- the bytes of words
unfoldable pub word_bytes : List ℕ → List ℕ
word_bytes [] = []
word_bytes (w ∷ ws) = (w / 256 % 256) ∷ (w % 256) ∷ word_bytes ws
