-- Stores: a store keeps memory's length and all but its own bytes, and two memories agree after it wherever they did before.
-- Assumes nothing.
use Rattle.std.specs.Prelude.{Bool, false, true, List, [], ◌∷◌, ◌⊎◌, ◌≡◌, ℕ, suc, zero, eqb, get_or, length, set, Option, None, Some}
use Rattle.std.proofs.Common.{true≢false, inl, inr, ap, sym, ◌∙◌, arith, eqb-true, length-set}
use Rattle.std.proofs.Math.Path.{refl}
use Rattle.std.proofs.lemmas.Bool.{eqb-false}
use Rattle.std.proofs.Math.Seq.{get_or-set_other}
use Rattle.status.specs.Flag.{word_of}
use Rattle.status.specs.Saved.{pushed}
use Rattle.status.specs.declared.Flags.{Flags}
use Rattle.memory.specs.Memory.{store_word, stored, write_at}
use Rattle.mmu.specs.declared.Right.TheVariants.{Write}
use Rattle.memory.specs.declared.Store.{Store}
use Rattle.word.specs.Word.{lower, minus, plus, upper}
use Rattle.word.specs.declared.Width.{Width}
use Rattle.word.specs.declared.Width.TheVariants.{Byte, Word}
use Rattle.isolation.proofs.Rights.{ByteIn, BytesIn}
use Rattle.isolation.specs.Statement.{Pushed, has_right}

-- ---- lengths

word_long : (m : List ℕ) (i v : ℕ) → length (store_word m i v) ≡ length m
word_long m i v = length-set (set m i (upper v)) (plus i 1) (lower v) ∙ length-set m i (upper v)

pub pushed_long : (ssp : ℕ) (flags : Flags) (saved : ℕ) (m : List ℕ) → length (pushed ssp flags saved m) ≡ length m
unfolding pushed
pushed_long ssp flags saved m = word_long (store_word m (minus ssp 2) saved) (minus ssp 4) (word_of flags) ∙ word_long m (minus ssp 2) saved

-- ---- two memories of one length

abbrev Agree : ℕ → List ℕ → List ℕ → Type 0
Agree a m m' = get_or m a 0 ≡ get_or m' a 0

set_agree : (m m' : List ℕ) (i v a : ℕ) → length m ≡ length m' → Agree a m m' → Agree a (set m i v) (set m' i v)
set_agree [] [] i v a l e = e
set_agree [] (y ∷ ys) i v a l e = absurd (omega arith)
set_agree (x ∷ xs) [] i v a l e = absurd (omega arith)
set_agree (x ∷ xs) (y ∷ ys) zero v zero l e = refl
set_agree (x ∷ xs) (y ∷ ys) zero v (suc a) l e = e
set_agree (x ∷ xs) (y ∷ ys) (suc i) v zero l e = e
set_agree (x ∷ xs) (y ∷ ys) (suc i) v (suc a) l e = set_agree xs ys i v a (omega arith) e

word_agree : (m m' : List ℕ) (i v a : ℕ) → length m ≡ length m' → Agree a m m' → Agree a (store_word m i v) (store_word m' i v)
word_agree m m' i v a l e =
    set_agree (set m i (upper v)) (set m' i (upper v)) (plus i 1) (lower v) a (length-set m i (upper v) ∙ l ∙ sym (length-set m' i (upper v)))
    (set_agree m m' i (upper v) a l e)

pub stored_agree : (s : Option Store) (m m' : List ℕ) (a : ℕ) → length m ≡ length m' → Agree a m m' → Agree a (stored s m) (stored s m')
unfolding stored
stored_agree None m m' a l e = e
stored_agree (Some s) m m' a l e = by s.width
  where
    by : (width : Width) → Agree a (write_at width m s.address s.value) (write_at width m' s.address s.value)
    by Byte = set_agree m m' s.address (lower s.value) a l e
    by Word = word_agree m m' s.address s.value a l e

pub pushed_agree :
    (ssp : ℕ) (flags : Flags) (saved : ℕ) (m m' : List ℕ) (a : ℕ) → length m ≡ length m' → Agree a m m'
    → Agree a (pushed ssp flags saved m) (pushed ssp flags saved m')
unfolding pushed
pushed_agree ssp flags saved m m' a l e =
    word_agree (store_word m (minus ssp 2) saved) (store_word m' (minus ssp 2) saved) (minus ssp 4) (word_of flags) a
    (word_long m (minus ssp 2) saved ∙ l ∙ sym (word_long m' (minus ssp 2) saved))
    (word_agree m m' (minus ssp 2) saved a l e)

-- ---- one memory: a byte is as before, or is one that is stored

set_kept : (m : List ℕ) (i v a : ℕ) → (get_or (set m i v) a 0 ≡ get_or m a 0) ⊎ (a ≡ i)
set_kept m i v a = by (eqb a i) refl
  where
    by : (t : Bool) → eqb a i ≡ t → (get_or (set m i v) a 0 ≡ get_or m a 0) ⊎ (a ≡ i)
    by true e = inr (eqb-true a i e)
    by false e = inl (get_or-set_other m i a v 0 (eqb-false a i e))

word_kept : (m : List ℕ) (i v a : ℕ) → (get_or (store_word m i v) a 0 ≡ get_or m a 0) ⊎ ((a ≡ i) ⊎ (a ≡ plus i 1))
word_kept m i v a = by (set_kept (set m i (upper v)) (plus i 1) (lower v) a) (set_kept m i (upper v) a)
  where
    by :
        (get_or (store_word m i v) a 0 ≡ get_or (set m i (upper v)) a 0) ⊎ (a ≡ plus i 1) → (get_or (set m i (upper v)) a 0 ≡ get_or m a 0) ⊎ (a ≡ i)
        → (get_or (store_word m i v) a 0 ≡ get_or m a 0) ⊎ ((a ≡ i) ⊎ (a ≡ plus i 1))
    by (inr e) _ = inr (inr e)
    by (inl p) (inr e) = inr (inl e)
    by (inl p) (inl q) = inl (p ∙ q)

pub pushed_kept : (ssp : ℕ) (flags : Flags) (saved : ℕ) (m : List ℕ) (a : ℕ) → (get_or (pushed ssp flags saved m) a 0 ≡ get_or m a 0) ⊎ Pushed ssp a
unfolding pushed
pushed_kept ssp flags saved m a = by (word_kept (store_word m (minus ssp 2) saved) (minus ssp 4) (word_of flags) a) (word_kept m (minus ssp 2) saved a)
  where
    by :
        {x y z : ℕ} → (x ≡ y) ⊎ ((a ≡ minus ssp 4) ⊎ (a ≡ plus (minus ssp 4) 1))
        → (y ≡ z) ⊎ ((a ≡ minus ssp 2) ⊎ (a ≡ plus (minus ssp 2) 1)) → (x ≡ z) ⊎ Pushed ssp a
    by (inl p) (inl q) = inl (p ∙ q)
    by (inr (inl e)) _ = inr (inl e)
    by (inr (inr e)) _ = inr (inr (inl (omega arith)))
    by (inl p) (inr (inl e)) = inr (inr (inr (inl e)))
    by (inl p) (inr (inr e)) = inr (inr (inr (inr (omega arith))))

-- a store that leaves every frame without the write right as it is
abbrev pub Spares : List ℕ → Option Store → Type 0
Spares tlb s = (m : List ℕ) (a : ℕ) → has_right tlb Write (upper a) ≡ false → get_or (stored s m) a 0 ≡ get_or m a 0

module _ (tlb : List ℕ) where
  -- a byte with the right is none without it
  apart : {a p : ℕ} → has_right tlb Write (upper a) ≡ false → ByteIn tlb Write p → a ≡ p → ⊥
  apart h b e = true≢false (sym b.allowed ∙ ap (λ (n : ℕ). has_right tlb Write (upper n)) (sym e) ∙ h)

  pub spares_nothing : Spares tlb None
  unfolding stored
  spares_nothing m a h = refl

  pub spares_at : (width : Width) (p v : ℕ) → BytesIn width tlb Write p → Spares tlb (Some (record { width = width; address = p; value = v }))
  unfolding stored
  spares_at Byte p v b m a h = get_or-set_other m p a (lower v) 0 (apart h b)
  spares_at Word p v b m a h = by (word_kept m p v a)
    where
      by : {x y : ℕ} → (x ≡ y) ⊎ ((a ≡ p) ⊎ (a ≡ plus p 1)) → x ≡ y
      by (inl e) = e
      by (inr (inl e)) = absurd (apart h b.0 e)
      by (inr (inr e)) = absurd (apart h b.1 e)
