-- The number that decimal digits say.
-- Assumes nothing.
use Rattle.std.specs.Prelude.{ℕ, ◌*◌, ◌+◌, ◌-◌}
use mathlib.Core.List.{List, foldl}
use Prim.Native.Char.{code}

-- the number that decimal digits say
abbrev pub decimal_value : List ℕ → ℕ
decimal_value ds = foldl (λ (n d : ℕ). n * 10 + (d - code "0")) 0 ds
