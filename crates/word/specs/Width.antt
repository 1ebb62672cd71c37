-- The widths of an access.
-- Assumes nothing.
use Rattle.std.specs.Prelude.{ℕ, ◌<◌}
use Rattle.std.proofs.Common.{arith}
use Rattle.word.specs.declared.Width.{Width}
use Rattle.word.specs.declared.Width.TheVariants.{Byte, Word}

-- "Words are 16 bits": how many bytes are accessed
abbrev pub bytes_of : Width → ℕ
bytes_of Byte = 1
bytes_of Word = 2

pub some_bytes : (width : Width) → 0 < bytes_of width
some_bytes Byte = omega arith
some_bytes Word = omega arith
