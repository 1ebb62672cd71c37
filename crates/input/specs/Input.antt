-- Reading to the end of the input. The program logic has no record of what a call of the system gave, so these say what holds of the buffer and of
-- the answers whatever was given.
-- Assumes nothing.
use Rattle.std.specs.Prelude.{List, ◌≡◌, ℕ, ◌+◌, ◌<◌, ◌≤◌, Err, Ok, Result, drop, length}
use Rattle.std.proofs.lemmas.List.Edits.{sets}

-- `n` bytes put at an offset, for which there is room
abbrev pub PutAt : List ℕ → ℕ → ℕ → List ℕ → Type 0
PutAt before at n after = (bytes : List ℕ) × (length bytes ≡ n) × (at + n ≤ length before) × (after ≡ sets before at bytes)

-- What one read at an offset may do: it fails and leaves the buffer, or answers how many bytes it put there.
abbrev pub ReadAt : {E : Type 0} → List ℕ → ℕ → Result ℕ E → List ℕ → Type 0
ReadAt before at (Err e) after = after ≡ before
ReadAt before at (Ok n) after = PutAt before at n after

-- The answers after which no more is read: 0, the end of the input, and a read that failed.
abbrev pub Ends : {E : Type 0} → Result ℕ E → Type 0
Ends (Err e) = Unit {0}
Ends (Ok n) = n ≡ 0

-- `count` bytes stand at the front of a buffer, and those behind them are as before.
pub record Front (before after : List ℕ) (count : ℕ) : Type 0 where
  pub within : count ≤ length before
  pub long : length after ≡ length before
  pub behind : drop count after ≡ drop count before

-- What all reads may do. Unless the buffer is full the last read was answered with an end.
pub record ReadTo {E : Type 0} (before after : List ℕ) (count : ℕ) (last : Result ℕ E) : Type 0 where
  pub front : Front before after count
  pub ended : count < length before → Ends last
