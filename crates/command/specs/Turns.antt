-- A turn of the loops that go through a card: what stands at a position, read from there on.
-- Assumes nothing.
use Rattle.std.specs.Prelude.{[], List, ◌∷◌, ◌≡◌, ℕ, ◌-◌, ◌<◌, ◌≤◌, drop, length, Err, Ok}
use Rattle.std.proofs.Common.{ap, sym, ◌∙◌, arith, length-drop}
use borrow.Rule.Slice.PartMut.{mid_of}
use Rattle.refusal.specs.declared.Refusal.{Refusal}
use Rattle.command.specs.Card.{read_by, read_from, reading}
use Rattle.command.specs.Command.{Standing, ends, parsed_of, reads}
use Rattle.command.specs.Laws.{bad_within, next_within, read_on}
use Rattle.command.specs.Parts.{part_is}
use Rattle.command.specs.declared.Command.{Command}

-- a command at a position, and the position of the next
pub record Turn (card : List ℕ) (at : ℕ) (x : Command) (next : ℕ) : Type 0 where
  pub read : read_from card at ≡ reading (x ∷ (read_from card next).commands) (read_from card next).validity
  pub forward : at < next
  pub within : at ≤ length card → next ≤ length card

-- less of the card is left
pub falls : {card : List ℕ} {at : ℕ} {x : Command} {next : ℕ} → Turn card at x next → at ≤ length card → length card - next < length card - at
falls t h = omega (arith, t.within h)

module _ (card : List ℕ) (at : ℕ) {p : Standing} (e : p ≡ parsed_of at (mid_of at (length card - at) card)) where
  there : parsed_of at (drop at card) ≡ p
  there = ap (parsed_of at) (sym (part_is at card)) ∙ sym e

  read : {q : Standing} → p ≡ q → read_from card at ≡ read_by q (read_from card)
  read f = read_on card at ∙ ap (λ (q : Standing). read_by q (read_from card)) (there ∙ f)

  pub at_end : p ≡ ends → read_from card at ≡ reading [] (Ok tt)
  at_end f = read f

  pub at_bad : {r : Refusal} → p ≡ Err r → read_from card at ≡ reading [] (Err r)
  at_bad f = read f

  pub bad_before : {r : Refusal} → p ≡ Err r → at < length card
  bad_before {r} f = bad_within card at r (there ∙ f)

  pub at_next : {x : Command} {next : ℕ} → p ≡ reads x next → Turn card at x next
  at_next {x} {next} f =
      let w = next_within at (drop at card) x next (there ∙ f) in
      record { read = read f; forward = w.0; within = λ h. omega (arith, w.1.0, length-drop at card) }
