-- Memory: a list of bytes, by physical address. Document 01: "The even byte of a word is its upper half."
-- Assumes nothing.
use Rattle.std.specs.Prelude.{List, Option, None, Some, ℕ, get_or, set}
use Rattle.word.specs.Word.{halves, lower, plus, upper}
use Rattle.word.specs.declared.Width.{Width}
use Rattle.word.specs.declared.Width.TheVariants.{Byte, Word}
use Rattle.memory.specs.declared.Store.{Store}

-- "A byte read is extended by zeros"
abbrev pub byte_at : List ℕ → ℕ → ℕ
byte_at m a = get_or m a 0

abbrev pub word_at : List ℕ → ℕ → ℕ
word_at m a = halves (get_or m a 0) (get_or m (plus a 1) 0)

abbrev pub read_at : Width → List ℕ → ℕ → ℕ
read_at Byte = byte_at
read_at Word = word_at

-- "a byte store writes the lower half"
abbrev pub store_byte : List ℕ → ℕ → ℕ → List ℕ
store_byte m a v = set m a (lower v)

abbrev pub store_word : List ℕ → ℕ → ℕ → List ℕ
store_word m a v = set (set m a (upper v)) (plus a 1) (lower v)

abbrev pub write_at : Width → List ℕ → ℕ → ℕ → List ℕ
write_at Byte = store_byte
write_at Word = store_word

-- memory after an instruction's store
unfoldable pub stored : Option Store → List ℕ → List ℕ
stored None m = m
stored (Some s) m = write_at s.width m s.address s.value
