-- What the end of reading says: where the buffer is not full and no read failed, the last answer is 0.
-- Assumes nothing.
use Rattle.std.specs.Prelude.{true, List, ◌≡◌, ℕ, ◌<◌, Err, Ok, Result, length}
use Rattle.std.specs.Result.{is_ok}
use Rattle.std.proofs.Common.{ap}
use Rattle.input.specs.Input.{Ends, ReadTo}

zero_ends : {E : Type 0} (last : Result ℕ E) → Ends last → is_ok last ≡ true → last ≡ Ok 0
zero_ends (Ok n) e h = ap Ok e
zero_ends (Err x) e h = cc

-- the last read answered 0, which is the end of the input
pub read_all :
    {E : Type 0} (before after : List ℕ) (count : ℕ) (last : Result ℕ E)
    → ReadTo before after count last → is_ok last ≡ true → count < length before → last ≡ Ok 0
read_all before after count last r h l = zero_ends last (r.ended l) h
