-- What a function that writes text leaves: the cursor stays within the buffer, and what has no room is left out.
-- Assumes nothing.
use Rattle.std.specs.Prelude.{List, ◌≡◌, min, ℕ, ◌+◌, length}
use Rattle.std.proofs.lemmas.List.Edits.{sets}

-- `piece` written to `before` from `from` on, cut where that ends: `after` is the buffer then, and `to` is the cursor
pub record WroteText (before after : List ℕ) (from to : ℕ) (piece : List ℕ) : Type 0 where
  pub text : after ≡ sets before from piece
  pub cursor : to ≡ min (from + length piece) (length before)
