-- An instruction for anyone is none that a privilege guards.
-- Assumes nothing.
use Rattle.std.specs.Prelude.{true, refl, ◌≡◌, ℕ, Some}
use Rattle.decode.specs.Decode.{first_of}
use Rattle.decode.specs.Instructions.{Row, eight, row, rows, single}
use Rattle.decode.specs.declared.Shape.{Shape}
use Rattle.decode.specs.Laws.{decoded_has, guarded, in_each_mode, in_each_row}

all_guarded : in_each_row (λ (r : Row) (m : ℕ). guarded r.privilege r.code) rows ≡ true
unfolding rows row eight single in_each_mode in_each_row
all_guarded = refl

pub shape_guarded : (w : ℕ) (shape : Shape) → Some shape ≡ first_of w → guarded shape.privilege shape.code ≡ true
shape_guarded w shape e = let d = decoded_has (λ (r : Row) (m : ℕ). guarded r.privilege r.code) all_guarded w shape e in rw d.is d.has
