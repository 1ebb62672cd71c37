-- What the methods of a writer leave.
-- Assumes nothing.
use Rattle.std.specs.Prelude.{List, [], ◌++◌, refl, ◌≡◌, ℕ}
use Rattle.std.proofs.Common.{◌∙◌}
use Rattle.text.specs.declared.Writer.{Writer}
use Rattle.text.specs.Written.{WroteText}
use Rattle.text.specs.Wrote.{nothing, then}

-- `piece` is written behind what was, to the buffer that the writer borrows all along
pub record Wrote (before after : Writer) (piece : List ℕ) : Type 0 where
  pub same : after.text.ghost_name ≡ before.text.ghost_name
  pub wrote : WroteText before.text.now after.text.now before.at after.at piece

pub none : (w : Writer) → Wrote w w []
none w = record { same = refl; wrote = nothing _ _ w.inside }

-- one piece and then another
pub both : {a b c : Writer} {xs ys : List ℕ} → Wrote a b xs → Wrote b c ys → Wrote a c (xs ++ ys)
both v w = record { same = w.same ∙ v.same; wrote = then v.wrote w.wrote }
