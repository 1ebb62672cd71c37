-- Laws of elements read from bytes one behind the other, and of elements stored so: those that a loop uses.
-- Assumes nothing.
use Rattle.std.specs.Prelude.{[], List, ◌++◌, ◌∷◌, refl, ◌≡◌, suc, zero, ℕ, ◌%◌, ◌*◌, ◌+◌, ◌/◌, ◌<◌, ◌≤◌, get_or, length, set, take}
use Rattle.std.proofs.Common.{append_assoc, append-nil, ap, sym, ◌∙◌, add-zero, add-one, arith, drop_of_length-le, length-append, length-set, length-take-le, take_all, take-suc-set}
use Rattle.std.proofs.Math.Seq.{length-sets}
use Rattle.std.proofs.lemmas.List.{take_more}
use Rattle.std.proofs.lemmas.List.Edits.{sets, sets-eq}
use Rattle.endian.specs.Bytes.{word_bytes, word_from, words_from}

-- one element more at the end, of a definition that puts it in front
module _ {A : Type 0} (one : ℕ → A) (size : ℕ) (many : ℕ → ℕ → List A)
    (none : (at : ℕ) → many at zero ≡ []) (more : (at n : ℕ) → many at (suc n) ≡ one at ∷ many (at + size) n) where
  pub one_more : (at n : ℕ) → many at (n + 1) ≡ many at n ++ (one (at + size * n) ∷ [])
  one_more at zero =
      more at zero ∙ ap (λ (r : List A). one at ∷ r) (none (at + size))
      ∙ rw (none at, (let e : at + size * 0 ≡ at = omega arith in e))
  one_more at (suc n) =
      ap (many at) (add-one (suc n)) ∙ more at (suc n)
      ∙ ap (λ (r : List A). one at ∷ r) (ap (many (at + size)) (sym (add-one n)) ∙ one_more (at + size) n)
      ∙ rw (more at n, (let e : at + size + size * n ≡ at + size * suc n = omega arith in e))

-- `many` elements from an offset on, `size` bytes for each: `one` there, then those behind it
pub record Reads {A : Type 0} (size : ℕ) (one : List ℕ → ℕ → A) (many : List ℕ → ℕ → ℕ → List A) : Type 0 where
  pub none : (b : List ℕ) (at : ℕ) → many b at zero ≡ []
  pub more : (b : List ℕ) (at n : ℕ) → many b at (suc n) ≡ one b at ∷ many b (at + size) n

pub reads_more :
    {A : Type 0} {size : ℕ} {one : List ℕ → ℕ → A} {many : List ℕ → ℕ → ℕ → List A} → Reads size one many → (b : List ℕ) (at n : ℕ)
    → many b at (n + 1) ≡ many b at n ++ (one b (at + size * n) ∷ [])
reads_more {A} {size} {one} {many} r b = one_more (one b) size (many b) (r.none b) (r.more b)

pub words_read : Reads 2 word_from words_from
words_read = record { none = λ b at. refl; more = λ b at n. refl }

pub words_more : (b : List ℕ) (at n : ℕ) → words_from b at (n + 1) ≡ words_from b at n ++ (word_from b (at + 2 * n) ∷ [])
words_more = reads_more words_read

-- `k` of `n` elements have been read
pub record Filled {A : Type 0} (read : ℕ → List A) (n : ℕ) (xs : List A) (k : ℕ) : Type 0 where
  pub within : k ≤ n
  pub long : length xs ≡ n
  pub front : take k xs ≡ read k

module _ {A : Type 0} {read : ℕ → List A} {n : ℕ} {xs : List A} {k : ℕ} (f : Filled read n xs k) where
  pub filled_more : (v : A) → k < n → read (k + 1) ≡ read k ++ (v ∷ []) → Filled read n (set xs k v) (k + 1)
  filled_more v h e =
      record {
        within = omega arith;
        long = length-set xs k v ∙ f.long;
        front =
            ap (λ (j : ℕ). take j (set xs k v)) (add-one k)
            ∙ take-suc-set xs k v (omega arith)
            ∙ ap (λ (r : List A). r ++ (v ∷ [])) f.front
            ∙ sym e;
      }

  pub filled_all : n ≤ k → xs ≡ read n
  filled_all h =
      let e : k ≡ n = omega arith in
      sym (take_all k xs (omega arith)) ∙ f.front ∙ ap read e

-- a list stored behind another
pub sets_append : (xs ys old : List ℕ) (at : ℕ) → sets old at (xs ++ ys) ≡ sets (sets old at xs) (at + length xs) ys
sets_append [] ys old at = rw (add-zero at)
sets_append (x ∷ xs) ys old at =
    sets_append xs ys (set old at x) (suc at)
    ∙ ap (λ (j : ℕ). sets (sets (set old at x) (suc at) xs) j ys) (omega arith)

pub sets_behind :
    (xs ys old : List ℕ) (at : ℕ) {mid new : List ℕ} → mid ≡ sets old 0 xs → length xs ≡ at → new ≡ sets mid at ys
    → new ≡ sets old 0 (xs ++ ys)
sets_behind xs ys old at {mid} p e q =
    q
    ∙ ap (λ (m : List ℕ). sets m at ys) p
    ∙ ap (λ (k : ℕ). sets (sets old 0 xs) k ys) (sym e ∙ omega arith)
    ∙ sym (sets_append xs ys old 0)

-- a list stored over another of its length
pub sets_all : (xs old : List ℕ) → length old ≡ length xs → sets old 0 xs ≡ xs
sets_all xs old e =
    sets-eq xs old 0 (omega arith)
    ∙ ap (λ (r : List ℕ). xs ++ r) (drop_of_length-le old {i = 0 + length xs} (omega arith))
    ∙ append-nil xs

-- bytes of elements: `size` for each, one behind the other
pub record Laid {A : Type 0} (size : ℕ) (bytes : List A → List ℕ) : Type 0 where
  pub one : A → List ℕ
  pub none : bytes [] ≡ []
  pub more : (x : A) (xs : List A) → bytes (x ∷ xs) ≡ one x ++ bytes xs
  pub long : (x : A) → length (one x) ≡ size

pub words_laid : Laid 2 word_bytes
unfolding word_bytes
words_laid =
    record { one = λ x. (x / 256 % 256) ∷ (x % 256) ∷ []; none = refl; more = λ x xs. refl; long = λ x. refl }

module _ {A : Type 0} {size : ℕ} {bytes : List A → List ℕ} (laid : Laid size bytes) where
  pub laid_append : (xs ys : List A) → bytes (xs ++ ys) ≡ bytes xs ++ bytes ys
  laid_append [] ys = ap (λ (r : List ℕ). r ++ bytes ys) (sym laid.none)
  laid_append (x ∷ xs) ys =
      laid.more x (xs ++ ys)
      ∙ ap (λ (r : List ℕ). laid.one x ++ r) (laid_append xs ys)
      ∙ sym (append_assoc (laid.one x) (bytes xs) (bytes ys))
      ∙ ap (λ (r : List ℕ). r ++ bytes ys) (sym (laid.more x xs))

  pub laid_long : (xs : List A) → length (bytes xs) ≡ size * length xs
  laid_long [] = ap length laid.none ∙ omega arith
  laid_long (x ∷ xs) =
      ap length (laid.more x xs) ∙ length-append (laid.one x) (bytes xs) ∙ omega (arith, laid.long x, laid_long xs)

-- a word out of the bytes of words, whatever stands behind them
pub word_at_lem : (xs r : List ℕ) (k : ℕ) → k < length xs → get_or xs k 0 < 65536 → word_from (word_bytes xs ++ r) (2 * k) ≡ get_or xs k 0
unfolding word_bytes
word_at_lem [] r k h small = absurd (omega arith)
word_at_lem (x ∷ xs) r zero h small = omega arith
word_at_lem (x ∷ xs) r (suc k) h small =
    let upper : 2 * suc k ≡ suc (suc (2 * k)) = omega arith in
    let lower : suc (suc (2 * k)) + 1 ≡ suc (suc (2 * k + 1)) = omega arith in
    rw (upper, lower) (word_at_lem xs r k (omega arith) small)

-- words stored behind others
pub words_behind :
    (old xs ys : List ℕ) (at : ℕ)
    → sets (sets old at (word_bytes xs)) (at + 2 * length xs) (word_bytes ys) ≡ sets old at (word_bytes (xs ++ ys))
words_behind old xs ys at =
    ap (λ (n : ℕ). sets (sets old at (word_bytes xs)) (at + n) (word_bytes ys)) (sym (laid_long words_laid xs))
    ∙ sym (sets_append (word_bytes xs) (word_bytes ys) old at)
    ∙ ap (sets old at) (sym (laid_append words_laid xs ys))

-- `k` of the elements `xs` have been stored from `at` on
pub record Stored {A : Type 0} (bytes : List A → List ℕ) (old : List ℕ) (at : ℕ) (xs : List A) (new : List ℕ) (k : ℕ) : Type 0 where
  pub within : k ≤ length xs
  pub are : new ≡ sets old at (bytes (take k xs))
  pub long : length new ≡ length old

module _ {A : Type 0} {size : ℕ} {bytes : List A → List ℕ} (laid : Laid size bytes) {old : List ℕ} {at : ℕ} {xs : List A} where
  pub stored_none : Stored bytes old at xs old 0
  stored_none = record { within = omega arith; are = ap (sets old at) (sym laid.none); long = refl }

  module _ {new : List ℕ} {k : ℕ} (s : Stored bytes old at xs new k) where
    pub stored_more :
        {next : List ℕ} {p : ℕ} (d : A) → k < length xs → next ≡ sets new p (bytes (get_or xs k d ∷ [])) → p ≡ at + size * k
        → Stored bytes old at xs next (k + 1)
    stored_more {next} {p} d h e place =
        let x : List A = get_or xs k d ∷ [] in
        let front : List ℕ = bytes (take k xs) in
        let here : p ≡ at + length front =
        place
        ∙ ap (λ (n : ℕ). at + size * n) (sym (length-take-le k xs s.within))
        ∙ ap (λ (n : ℕ). at + n) (sym (laid_long laid (take k xs))) in
        let more : bytes (take (k + 1) xs) ≡ front ++ bytes x = ap bytes (take_more xs k d h) ∙ laid_append laid (take k xs) x in
        let are : next ≡ sets old at (bytes (take (k + 1) xs)) =
        e
        ∙ ap (λ (j : ℕ). sets new j (bytes x)) here
        ∙ ap (λ (m : List ℕ). sets m (at + length front) (bytes x)) s.are
        ∙ sym (sets_append front (bytes x) old at)
        ∙ ap (sets old at) (sym more) in
        record { within = omega arith; are = are; long = ap length are ∙ length-sets old at (bytes (take (k + 1) xs)) }

    pub stored_all : length xs ≤ k → new ≡ sets old at (bytes xs)
    stored_all h = s.are ∙ ap (λ (r : List A). sets old at (bytes r)) (take_all k xs h)
