-- The reading of two cards put together: the first card's commands, and behind them the second's.
-- Assumes nothing.
use Rattle.std.specs.Prelude.{List, [], ◌++◌, ◌∷◌, refl, ◌≡◌, suc, zero, ℕ, ◌+◌, ◌<◌, ◌≤◌, drop, length, Err, None, Ok, Some}
use Rattle.std.proofs.Common.{ap, sym, ◌∙◌, arith, le-leb, length-append, length-drop}
use Rattle.std.proofs.Math.Seq.{drop-append-add}
use Rattle.std.proofs.lemmas.List.{drop-append-le}
use Rattle.command.specs.Card.{Reading, card_size, read_by, read_from, reading, reading_of}
use Rattle.command.specs.Command.{Standing, ends, parsed_of, reads}
use Rattle.command.specs.Laws.{next_within, read_on, read_whole}
use Rattle.command.specs.Whole.{ended}
use Rattle.command.specs.declared.Command.{Command}
use Rattle.refusal.specs.Laws.{not_good}
use Rattle.joined.specs.Parses.{moved_parsed_lem, moved_parsed, moved_refusal, parsed_before}
use Rattle.refusal.specs.Refusal.{Validity}

-- a validity on a card that stands k bytes further on
abbrev pub moved_validity : ℕ → Validity → Validity
moved_validity k (Ok u) = Ok u
moved_validity k (Err r) = Err (moved_refusal k r)

abbrev pub moved_reading : ℕ → Reading → Reading
moved_reading k r = reading r.commands (moved_validity k r.validity)

-- a reading to the end, and what is read from there on
abbrev pub followed : List Command → Reading → Reading
followed xs r = reading (xs ++ r.commands) r.validity

-- the next position is further on, and not past the end
pub further :
    (card : List ℕ) (at : ℕ) (x : Command) (next : ℕ) → parsed_of at (drop at card) ≡ reads x next
    → (at < next) × ((at < length card) × (next ≤ length card))
further card at x next e =
    let w = next_within at (drop at card) x next e in
    omega (arith, w.0, w.1.0, length-drop at card)

-- ---- the second card

moved_by :
    (k : ℕ) (p : Standing) (f g : ℕ → Reading) → ((x : Command) (next : ℕ) → p ≡ reads x next → f (k + next) ≡ moved_reading k (g next))
    → read_by (moved_parsed k p) f ≡ moved_reading k (read_by p g)
moved_by k (Ok None) f g h = refl
moved_by k (Err r) f g h = refl
moved_by k (Ok (Some p)) f g h = ap (λ (r : Reading). reading (p.command ∷ r.commands) r.validity) (h p.command p.next refl)

module _ (a c : List ℕ) where
  second_by :
      (at : ℕ)
      → ((x : Command) (on : ℕ) → parsed_of at (drop at c) ≡ reads x on
      → read_from (a ++ c) (length a + on) ≡ moved_reading (length a) (read_from c on))
      → read_from (a ++ c) (length a + at) ≡ moved_reading (length a) (read_from c at)
  second_by at h =
      read_on (a ++ c) (length a + at)
      ∙ ap (λ (l : List ℕ). read_by (parsed_of (length a + at) l) (read_from (a ++ c))) (drop-append-add a c at)
      ∙ ap (λ (p : Standing). read_by p (read_from (a ++ c))) (moved_parsed_lem (length a) at (drop at c))
      ∙ moved_by (length a) (parsed_of at (drop at c)) (read_from (a ++ c)) (read_from c) h
      ∙ ap (moved_reading (length a)) (sym (read_on c at))

  -- with `n` bytes left at most
  second : (n at : ℕ) → length c ≤ at + n → read_from (a ++ c) (length a + at) ≡ moved_reading (length a) (read_from c at)
  second zero at h = second_by at (λ x on e. absurd (omega (arith, further c at x on e)))
  second (suc n) at h = second_by at (λ x on e. second n on (omega (arith, further c at x on e)))

  -- ---- the first card

  -- what is read of both from a position of the first on
  abbrev Both : ℕ → Reading → Type 0
  Both at r = read_from (a ++ c) at ≡ followed r.commands (moved_reading (length a) (read_from c 0))

  before :
      (at : ℕ) → at ≤ length a → (x : Command) (on : ℕ) → parsed_of at (drop at a) ≡ reads x on
      → read_from (a ++ c) at ≡ followed (x ∷ []) (read_from (a ++ c) on)
  before at h x on e =
      read_on (a ++ c) at
      ∙ ap (λ (p : Standing). read_by p (read_from (a ++ c)))
      (ap (parsed_of at) (drop-append-le at a c h) ∙ parsed_before (drop at a) c at x on e)

  at_end : (at : ℕ) → at ≤ length a → parsed_of at (drop at a) ≡ ends → Both at (reading [] (Ok tt))
  at_end at h e =
      let same : at ≡ length a + 0 = omega (arith, ended at (drop at a) e, length-drop at a) in
      ap (read_from (a ++ c)) same ∙ second (length c) 0 (omega arith)

  first_by :
      (at : ℕ) → at ≤ length a
      → ((x : Command) (on : ℕ) → parsed_of at (drop at a) ≡ reads x on → (read_from a on).validity ≡ Ok tt → Both on (read_from a on))
      → (p : Standing) → parsed_of at (drop at a) ≡ p → (read_by p (read_from a)).validity ≡ Ok tt → Both at (read_by p (read_from a))
  first_by at h ih (Ok None) e g = at_end at h e
  first_by at h ih (Err r) e g = not_good r g
  first_by at h ih (Ok (Some p)) e g = before at h p.command p.next e ∙ ap (followed (p.command ∷ [])) (ih p.command p.next e g)

  -- with `n` bytes left at most
  first : (n at : ℕ) → at ≤ length a → length a ≤ at + n → (read_from a at).validity ≡ Ok tt → Both at (read_from a at)
  first zero at h l g =
      rw (read_on a at)
      (first_by at h (λ x on e v. absurd (omega (arith, further a at x on e))) (parsed_of at (drop at a)) refl (rw (read_on a at) at g))
  first (suc n) at h l g =
      rw (read_on a at)
      (first_by at h (λ x on e v. first n on (further a at x on e).1.1 (omega (arith, further a at x on e)) v)
      (parsed_of at (drop at a)) refl (rw (read_on a at) at g))

-- ---- whole cards

from_start : (card : List ℕ) → length card ≤ card_size → reading_of card ≡ read_from card 0
unfolding reading_of
from_start card h = rw (le-leb (length card) card_size)

-- The commands of a good card with another behind it are its own, and then the other's; what is said of the other is said of it here, the
-- positions counted from the first card's start.
pub read_joined :
    (a c : List ℕ) → (reading_of a).validity ≡ Ok tt → length (a ++ c) ≤ card_size
    → reading_of (a ++ c) ≡ followed (reading_of a).commands (moved_reading (length a) (reading_of c))
read_joined a c g h =
    let la : length a ≤ card_size = omega (arith, length-append a c) in
    let lc : length c ≤ card_size = omega (arith, length-append a c) in
    let e : reading_of a ≡ read_from a 0 = from_start a la in
    rw (from_start (a ++ c) h, e, from_start c lc) (first a c (length a) 0 (omega arith) (omega arith) (rw e at g))

unmoved : (k : ℕ) (v : Validity) → moved_validity k v ≡ Ok tt → v ≡ Ok tt
unmoved k (Ok u) e = refl
unmoved k (Err r) e = not_good (moved_refusal k r) e

-- so the other is good if both together are, and both together are if the other is
pub second_good_lem : (a c : List ℕ) → (reading_of a).validity ≡ Ok tt → (reading_of (a ++ c)).validity ≡ Ok tt → (reading_of c).validity ≡ Ok tt
second_good_lem a c g h =
    unmoved (length a) (reading_of c).validity (sym (ap (λ (r : Reading). r.validity) (read_joined a c g (read_whole (a ++ c) h).0)) ∙ h)

pub joined_good :
    (a c : List ℕ) → (reading_of a).validity ≡ Ok tt → (reading_of c).validity ≡ Ok tt → length (a ++ c) ≤ card_size
    → (reading_of (a ++ c)).validity ≡ Ok tt
joined_good a c g h l =
    ap (λ (r : Reading). r.validity) (read_joined a c g l) ∙ ap (moved_validity (length a)) h

pub commands_joined :
    (a c : List ℕ) → (reading_of a).validity ≡ Ok tt → (reading_of (a ++ c)).validity ≡ Ok tt
    → (reading_of (a ++ c)).commands ≡ (reading_of a).commands ++ (reading_of c).commands
commands_joined a c g h = ap (λ (r : Reading). r.commands) (read_joined a c g (read_whole (a ++ c) h).0)
