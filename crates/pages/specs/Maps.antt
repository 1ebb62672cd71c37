-- A map of 256 pages. A number for each: the frame in its upper half, and a bit for each right, set only where an access is granted and leaves
-- the TLB as it is.
-- Assumes nothing.
use Rattle.std.specs.Prelude.{Bool, cond, false, true, List, Option, None, Some, refl, ◌≡◌, eqb, get_or, length, set}
use Rattle.std.proofs.Math.Bool.{and-false}
use Rattle.std.proofs.lemmas.Bool.{false≢true, eqb-false}
use Rattle.std.proofs.Common.{ap, sym, ◌∙◌, eqb-true, ne_eqb, get_or-set_other, get_or-set_same}
use Prim.Native.Nat.{suc, ℕ, ◌%◌, ◌*◌, ◌+◌, ◌-◌, ◌<◌, ◌≤◌}
use native.Mathlib.Omega.{arith}
use mir.Val.{bool_byte}
use Rattle.mmu.specs.Access.{access_of, aligned_access, granted}
use Rattle.mmu.specs.Entry.{frame_in, page_in, valid}
use Rattle.mmu.proofs.Grants.{aligned_access_lem, plain_granted, served_marked, translated}
use Rattle.mmu.specs.Lookup.{has_page, lookup_from, lookup_of}
use Rattle.mmu.specs.Marks.{usable_marked, usable_in}
use Rattle.mmu.specs.declared.Right.{Right}
use Rattle.mmu.specs.declared.Right.TheVariants.{Execute, Read, Write}
use Rattle.word.specs.Width.{bytes_of}
use Rattle.word.specs.Word.{bit, is_set, halves, lower, upper}
use Rattle.word.specs.declared.Width.{Width}
use Rattle.word.specs.declared.Width.TheVariants.{Byte, Word}

-- the bit of a right
abbrev pub map_bit : Right → ℕ
map_bit Read = 0
map_bit Write = 1
map_bit Execute = 2

pub lowest_bit : (x : ℕ) → eqb (x % 2) 1 ≡ is_set 0 x
lowest_bit x = let e : x % 2 ≡ bit 0 x = omega arith in rw e

-- the physical address
abbrev pub place_in : List ℕ → ℕ → ℕ
place_in map a = halves (upper (get_or map (upper a) 0)) (lower a)

-- a map of the pages, with translation on or off and this TLB
pub record Mapped (on : Bool) (tlb map : List ℕ) : Type 0 where
  pub grants :
      (right : Right) (a : ℕ) → a < 65536 → is_set (map_bit right) (get_or map (upper a) 0) ≡ true → aligned_access on tlb right a ≡ granted (place_in map a) tlb

-- a place that the map gives
pub record Placed (map : List ℕ) (right : Right) (width : Width) (a at : ℕ) : Type 0 where
  pub below : a < 65536
  pub aligned : a % bytes_of width ≡ 0
  pub granted : is_set (map_bit right) (get_or map (upper a) 0) ≡ true
  pub place : at ≡ place_in map a

-- a word's place is that of its first byte
pub word_placed : {map : List ℕ} {right : Right} {a at : ℕ} → Placed map right Byte a at → a % 2 ≡ 0 → Placed map right Word a at
word_placed p even = record { below = p.below; aligned = even; granted = p.granted; place = p.place }

pub access_granted :
    {on : Bool} {tlb map : List ℕ} {right : Right} {width : Width} {a at : ℕ} → Mapped on tlb map → Placed map right width a at
    → access_of width on tlb right a ≡ granted at tlb
access_granted {on} {tlb} {right} {width} {a} maps p =
    rw p.place (aligned_access_lem tlb right a width on p.aligned ∙ maps.grants right a p.below p.granted)

-- ---- nothing is translated

-- the first n pages go to themselves, with all rights
abbrev pub SelfTo : ℕ → List ℕ → Type 0
SelfTo n map = (p : ℕ) → p < n → get_or map p 0 ≡ p * 256 + 7

pub self_more : (n : ℕ) (map : List ℕ) → n < length map → SelfTo n map → SelfTo (n + 1) (set map n (n * 256 + 7))
self_more n map l e p h = by (eqb p n) refl
  where
    by : (t : Bool) → eqb p n ≡ t → get_or (set map n (n * 256 + 7)) p 0 ≡ p * 256 + 7
    by true q = let f : p ≡ n = eqb-true p n q in rw f (get_or-set_same map n (n * 256 + 7) 0 l)
    by false q = let f : p ≡ n → ⊥ = eqb-false p n q in get_or-set_other map n p (n * 256 + 7) 0 f ∙ e p (omega arith)

pub identity_mapped : {on : Bool} (tlb map : List ℕ) → on ≡ false → SelfTo 256 map → Mapped on tlb map
identity_mapped tlb map off same =
    rw off (record {
      grants = λ right a below set.
          rw (same (upper a) (omega arith)) (plain_granted tlb right a ∙ ap (λ (x : ℕ). granted x tlb) (omega arith));
    })

-- ---- by the TLB

-- what the map shows of an entry
unfoldable pub shown_of : ℕ → ℕ
shown_of entry =
    frame_in entry * 256 + bool_byte (usable_in Read entry) + 2 * bool_byte (usable_in Write entry) + 4 * bool_byte (usable_in Execute entry)

pub bit_below : (x : Bool) → bool_byte x < 2
bit_below true = omega arith
bit_below false = omega arith

is_one : (x : Bool) (n : ℕ) → n ≡ bool_byte x → eqb n 1 ≡ x
is_one true n e = rw e
is_one false n e = rw e

shown_bit : (right : Right) (entry : ℕ) → is_set (map_bit right) (shown_of entry) ≡ usable_in right entry
unfolding shown_of
shown_bit Read e = is_one (usable_in Read e) (bit 0 (shown_of e)) (omega (arith, bit_below (usable_in Read e), bit_below (usable_in Write e), bit_below (usable_in Execute e)))
shown_bit Write e = is_one (usable_in Write e) (bit 1 (shown_of e)) (omega (arith, bit_below (usable_in Read e), bit_below (usable_in Write e), bit_below (usable_in Execute e)))
shown_bit Execute e = is_one (usable_in Execute e) (bit 2 (shown_of e)) (omega (arith, bit_below (usable_in Read e), bit_below (usable_in Write e), bit_below (usable_in Execute e)))

shown_frame : (e : ℕ) → upper (shown_of e) ≡ frame_in e
unfolding shown_of
shown_frame e = omega (arith, bit_below (usable_in Read e), bit_below (usable_in Write e), bit_below (usable_in Execute e))

-- what it shows of a page
abbrev pub shown_at : List ℕ → Option ℕ → ℕ
shown_at tlb None = 0
shown_at tlb (Some k) = shown_of (get_or tlb k 0)

module _ (tlb : List ℕ) where
  -- the entries from k on are in the map
  abbrev pub ShowsFrom : ℕ → List ℕ → Type 0
  ShowsFrom k map = (p : ℕ) → p < 256 → get_or map p 0 ≡ shown_at tlb (lookup_from tlb p (8 - k) k)

  pub shows_none : (map : List ℕ) → ((p : ℕ) → p < 256 → get_or map p 0 ≡ 0) → ShowsFrom 8 map
  unfolding lookup_from
  shows_none map e p l = e p l

  -- entry k is before the others: it is valid and its page is one of the map, or it is not in the map
  module _ (k : ℕ) (less : k < 8) (map : List ℕ) (rest : ShowsFrom (k + 1) map) where
    left : (p : ℕ) → lookup_from tlb p (8 - k) k ≡ cond (has_page p (get_or tlb k 0)) (Some k) (lookup_from tlb p (8 - (k + 1)) (k + 1))
    unfolding lookup_from
    left p = let e : 8 - k ≡ suc (8 - (k + 1)) = omega arith in rw e

    pub shows_entry :
        length map ≡ 256 → valid (get_or tlb k 0) ≡ true → page_in (get_or tlb k 0) < 256 → ShowsFrom k (set map (page_in (get_or tlb k 0)) (shown_of (get_or tlb k 0)))
    shows_entry size v low p l = by (eqb (page_in (get_or tlb k 0)) p) refl
      where
        by : (t : Bool) → eqb (page_in (get_or tlb k 0)) p ≡ t → get_or (set map (page_in (get_or tlb k 0)) (shown_of (get_or tlb k 0))) p 0 ≡ shown_at tlb (lookup_from tlb p (8 - k) k)
        by true e =
            let q : page_in (get_or tlb k 0) ≡ p = eqb-true _ _ e in
            rw (left p, e, v, ← q) (get_or-set_same map (page_in (get_or tlb k 0)) (shown_of (get_or tlb k 0)) 0 (omega arith))
        by false e = rw (left p, e, get_or-set_other map (page_in (get_or tlb k 0)) p (shown_of (get_or tlb k 0)) 0 (λ q. eqb-false _ _ e (sym q))) (rest p l)

    pub shows_invalid : valid (get_or tlb k 0) ≡ false → ShowsFrom k map
    shows_invalid v p l = rw (left p, v, and-false) (rest p l)

    pub shows_beyond : 256 ≤ page_in (get_or tlb k 0) → ShowsFrom k map
    shows_beyond high p l = rw (left p, ne_eqb (page_in (get_or tlb k 0)) p (λ e. omega arith)) (rest p l)

no_bit : (right : Right) → is_set (map_bit right) 0 ≡ false
no_bit Read = refl
no_bit Write = refl
no_bit Execute = refl

pub tlb_mapped : {on : Bool} (tlb map : List ℕ) → on ≡ true → ShowsFrom tlb 0 map → Mapped on tlb map
unfolding lookup_of
tlb_mapped tlb map is-on shows = rw is-on (record { grants = λ right a below set. by right a below set (lookup_of tlb (upper a)) refl })
  where
    by : (right : Right) (a : ℕ) → a < 65536 → is_set (map_bit right) (get_or map (upper a) 0) ≡ true → (x : Option ℕ) → lookup_of tlb (upper a) ≡ x
        → aligned_access true tlb right a ≡ granted (place_in map a) tlb
    by right a below set None e =
        let s : get_or map (upper a) 0 ≡ 0 = shows (upper a) (omega arith) ∙ ap (shown_at tlb) e in
        absurd (false≢true (sym (no_bit right) ∙ (rw s at set)))
    by right a below set (Some k) e =
        let s : get_or map (upper a) 0 ≡ shown_of (get_or tlb k 0) = shows (upper a) (omega arith) ∙ ap (shown_at tlb) e in
        let u = usable_marked right (get_or tlb k 0) (sym (shown_bit right (get_or tlb k 0)) ∙ (rw s at set)) in
        rw (s, shown_frame) (translated tlb right a ∙ served_marked tlb right a k e u.0 u.1)
