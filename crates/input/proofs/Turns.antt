-- What a read in a loop that reads on leaves: more bytes at the front, and those behind them as before.
-- Assumes nothing.
use Rattle.std.specs.Prelude.{List, ◌++◌, ◌≡◌, ℕ, ◌+◌, ◌≤◌, drop, length, take}
use Rattle.std.proofs.Common.{ap, sym, ◌∙◌, arith, length-append, drop_at, drop-drop, length-take-le}
use Rattle.std.proofs.Math.Seq.{length-sets}
use Rattle.std.proofs.lemmas.List.Edits.{sets, sets-eq}
use Rattle.input.specs.Input.{Front, PutAt}

-- what is behind a part that is set is as before
sets_behind :
    (before bytes : List ℕ) (at : ℕ) → at + length bytes ≤ length before
    → drop (at + length bytes) (sets before at bytes) ≡ drop (at + length bytes) before
sets_behind before bytes at h =
    ap (drop (at + length bytes)) (sets-eq bytes before at h)
    ∙ drop_at (take at before ++ bytes) (drop (at + length bytes) before) (at + length bytes)
    (length-append (take at before) bytes ∙ ap (λ (n : ℕ). n + length bytes) (length-take-le at before (omega arith)))

module _ {before mid after : List ℕ} {at : ℕ} (f : Front before mid at) where
  put : (bytes : List ℕ) (n : ℕ) → length bytes ≡ n → at + n ≤ length mid → after ≡ sets mid at bytes → Front before after (at + n)
  put bytes n e room are =
      let room' : at + length bytes ≤ length mid = omega arith in
      record {
        within = omega (arith, f.long);
        long = ap length are ∙ length-sets mid at bytes ∙ f.long;
        behind =
            ap (drop (at + n)) are
            ∙ ap (λ (k : ℕ). drop (at + k) (sets mid at bytes)) (sym e)
            ∙ sets_behind mid bytes at room'
            ∙ ap (λ (k : ℕ). drop (at + k) mid) e
            ∙ sym (drop-drop n at mid)
            ∙ ap (drop n) f.behind
            ∙ drop-drop n at before;
      }

  pub read_on : (n : ℕ) → PutAt mid at n after → Front before after (at + n)
  read_on n (bytes, e, room, are) = put bytes n e room are
