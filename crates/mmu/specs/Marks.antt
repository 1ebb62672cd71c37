-- Marks: an entry with other marks has the same page, V, rights and frame, and marks that stand already change nothing.
-- Assumes nothing.
use Rattle.std.specs.Prelude.{Bool, cond, false, true, ◌&&◌, ◌≢◌, ◌≡◌, refl, ℕ, ◌%◌, ◌+◌, ◌/◌, ◌<◌, eqb}
use Rattle.std.proofs.Common.{ap, ◌∙◌, arith}
use Rattle.std.proofs.lemmas.Bool.{eqb-false}
use Rattle.word.specs.Cases.{rest, this}
use Rattle.word.specs.Word.{is_set}
use Rattle.mmu.specs.Entry.{frame_in, gives, marked, page_in, valid, with_bit}
use Rattle.mmu.specs.declared.Right.{Right}
use Rattle.mmu.specs.declared.Right.TheVariants.{Execute, Read, Write}

-- ---- an entry with other marks

-- the bits from 13 up and those below 11
pub record Like (x y : ℕ) : Type 0 where
  pub high : y / 8192 ≡ x / 8192
  pub low : y % 2048 ≡ x % 2048

like_trans : {x y z : ℕ} → Like x y → Like y z → Like x z
like_trans p q = record { high = q.high ∙ p.high; low = q.low ∙ p.low }

referenced : (e : ℕ) (b : Bool) → is_set 12 e ≡ b → Like e (cond b e (e + 4096))
referenced e true h = record { high = refl; low = refl }
referenced e false h = let unset : e / 4096 % 2 ≢ 1 = eqb-false _ _ h in record { high = omega arith; low = omega arith }

dirty : (e : ℕ) (b : Bool) → is_set 11 e ≡ b → Like e (cond b e (e + 2048))
dirty e true h = record { high = refl; low = refl }
dirty e false h = let unset : e / 2048 % 2 ≢ 1 = eqb-false _ _ h in record { high = omega arith; low = omega arith }

pub marked_like : (right : Right) (e : ℕ) → Like e (marked right e)
marked_like Read e = referenced e _ refl
marked_like Execute e = referenced e _ refl
marked_like Write e = like_trans (referenced e _ refl) (dirty (with_bit 12 e) _ refl)

module _ {x y : ℕ} (h : Like x y) where
  pub like_page : page_in y ≡ page_in x
  like_page = omega arith

  pub like_valid : valid y ≡ valid x
  like_valid = let e : y / 32768 ≡ x / 32768 = omega arith in ap (λ (n : ℕ). eqb (n % 2) 1) e

  pub like_zeros : y / 8192 % 4 ≡ x / 8192 % 4
  like_zeros = omega arith

  pub like_gives : (right : Right) → gives right y ≡ gives right x
  like_gives Read = let e : y / 1024 % 2 ≡ x / 1024 % 2 = omega arith in ap (λ (n : ℕ). eqb n 1) e
  like_gives Write = let e : y / 512 % 2 ≡ x / 512 % 2 = omega arith in ap (λ (n : ℕ). eqb n 1) e
  like_gives Execute = let e : y / 256 % 2 ≡ x / 256 % 2 = omega arith in ap (λ (n : ℕ). eqb n 1) e

  pub like_frame : frame_in y ≡ frame_in x
  like_frame = omega arith

  -- 24 bits
  pub like_fits : x < 16777216 → y < 16777216
  like_fits l = omega arith

-- ---- an entry with its marks

-- it gives the right, and an access leaves it as it is
unfoldable pub usable_in : Right → ℕ → Bool
usable_in Read entry = gives Read entry && is_set 12 entry
usable_in Write entry = gives Write entry && (is_set 12 entry && is_set 11 entry)
usable_in Execute entry = gives Execute entry && is_set 12 entry

pub usable_marked : (right : Right) (entry : ℕ) → usable_in right entry ≡ true → (gives right entry ≡ true) × (marked right entry ≡ entry)
unfolding usable_in
usable_marked Read entry e = (this (gives Read entry) _ e, rw (rest (gives Read entry) _ e))
usable_marked Write entry e =
    let k : (is_set 12 entry && is_set 11 entry) ≡ true = rest (gives Write entry) _ e in
    (this (gives Write entry) _ e, rw (this (is_set 12 entry) _ k) (rw (rest (is_set 12 entry) _ k)))
usable_marked Execute entry e = (this (gives Execute entry) _ e, rw (rest (gives Execute entry) _ e))
