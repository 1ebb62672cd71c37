-- What the number of an instruction tells, whatever its mode: its row.
-- Assumes nothing.
use Rattle.std.specs.Prelude.{cond, List, [], map, ◌∷◌, refl, ◌≡◌, ℕ, eqb}
use Rattle.decode.specs.Instructions.{Row, register, row, rows}
use Rattle.decode.specs.declared.DataAccess.TheVariants.{None}
use Rattle.decode.specs.declared.Flow.TheVariants.{Next}
use Rattle.decode.specs.declared.Privilege.TheVariants.{Anyone}

-- the row of a number that is no instruction's
unfoldable pub no_row : Row
no_row = row 0 0 [] [] register Anyone None Next

-- the first of these rows that has the number
unfoldable pub with_code : ℕ → List Row → Row
with_code code [] = no_row
with_code code (r ∷ rs) = cond (eqb code r.code) r (with_code code rs)

-- the row of a number
unfoldable pub row_of : ℕ → Row
row_of code = with_code code rows

-- each instruction's row is that of its number
pub rows_by_number : map (λ (r : Row). row_of r.code) rows ≡ rows
unfolding row_of with_code rows row
rows_by_number = refl
