-- Laws of the commands of a card and of what is read of it.
-- Assumes nothing.
use Rattle.std.specs.Prelude.{Bool, cond, false, true, List, [], ◌∷◌, refl, ◌≡◌, suc, zero, ℕ, ◌*◌, ◌+◌, ◌-◌, ◌<◌, ◌≤◌, leb, drop, length, Err, None, Ok, Some}
use Rattle.std.proofs.Common.{ap, sym, ◌∙◌, arith, drop_of_length-le, length-drop, leb-true}
use borrow.Author.Tests.{leb-false}
use Rattle.endian.specs.Bytes.{byte_from}
use Rattle.refusal.specs.Laws.{not_good}
use Rattle.refusal.specs.Refusal.{refused}
use Rattle.refusal.specs.declared.Cause.TheVariants.{CardLength}
use Rattle.refusal.specs.declared.Refusal.{Refusal}
use Rattle.command.specs.Card.{Reading, card_size, is_run, read_at_most, read_by, read_from, reading, reading_of, runs_in}
use Rattle.command.specs.Command.{Standing, command_number, command_of, ends, operands_of, parsed_of, reads}
use Rattle.command.specs.Whole.{Whole, by_number, whole}
use Rattle.command.specs.declared.Command.{Command}
use Rattle.command.specs.declared.Command.TheVariants.{Byte, Entry, Flag, Lines, Mmu, Register, Run, Time}

-- ---- commands

-- a command is one run at most
pub one_at_most : (x : Command) → is_run x ≤ 1
one_at_most (Byte a v) = omega arith
one_at_most (Register n v) = omega arith
one_at_most (Lines lines v) = omega arith
one_at_most (Run n) = omega arith
one_at_most (Entry k bits) = omega arith
one_at_most (Mmu on) = omega arith
one_at_most (Flag w) = omega arith
one_at_most (Time ms) = omega arith

-- a run takes three bytes
run_long : (b : List ℕ) (n : ℕ) → 0 < operands_of n → 3 * is_run (command_of n b) ≤ 1 + operands_of n
unfolding command_of operands_of
run_long b =
    by_number (λ (n : ℕ). 3 * is_run (command_of n b) ≤ 1 + operands_of n) (omega arith) (omega arith) (omega arith) (omega arith) (omega arith)
    (omega arith) (omega arith) (omega arith)

-- the command that a byte names has that byte as its number
pub numbered : (b : List ℕ) (n : ℕ) → 0 < operands_of n → command_number (command_of n b) ≡ n
unfolding command_of
numbered b = by_number (λ (n : ℕ). command_number (command_of n b) ≡ n) refl refl refl refl refl refl refl refl

-- the next command stands behind this one, and within the card or at its end; a run takes three bytes
pub next_within :
    (at : ℕ) (b : List ℕ) (x : Command) (next : ℕ) → parsed_of at b ≡ reads x next
    → (at < next) × ((next ≤ at + length b) × (at + 3 * is_run x ≤ next))
next_within at b x next e =
    let w : Whole at b x next = whole at b x next e in
    let run : 3 * is_run (command_of (byte_from b 0) b) ≤ 1 + operands_of (byte_from b 0) = run_long b (byte_from b 0) w.known in
    let three : 3 * is_run x ≤ 1 + operands_of (byte_from b 0) = rw w.is at run in
    (omega arith, (omega arith, omega arith))

parsed_nothing : (at : ℕ) → parsed_of at [] ≡ ends
unfolding parsed_of
parsed_nothing at = refl

-- ---- reading

beyond_end : (card : List ℕ) (at : ℕ) → length card ≤ at → parsed_of at (drop at card) ≡ ends
beyond_end card at h = ap (parsed_of at) (drop_of_length-le card {i = at} h) ∙ parsed_nothing at

-- a bad command stands before the end
pub bad_within : (card : List ℕ) (at : ℕ) (r : Refusal) → parsed_of at (drop at card) ≡ Err r → at < length card
bad_within card at r e = by (leb (length card) at) refl
  where
    by : (t : Bool) → leb (length card) at ≡ t → at < length card
    by true h = let none : ends ≡ Err r = sym (beyond_end card at (leb-true _ _ h)) ∙ e in let z : ◌≡◌ {A = ℕ} 0 1 = cc in absurd (omega arith)
    by false h = leb-false (length card) at h

-- only what is read from the next position on counts
alike :
    (p : Standing) (f g : ℕ → Reading) → ((x : Command) (next : ℕ) → p ≡ reads x next → f next ≡ g next) → read_by p f ≡ read_by p g
alike (Ok None) f g h = refl
alike (Err r) f g h = refl
alike (Ok (Some p)) f g h = ap (λ (r : Reading). reading (p.command ∷ r.commands) r.validity) (h p.command p.next refl)

-- any number of commands that is enough gives the same
enough : (n k : ℕ) (card : List ℕ) (at : ℕ) → length card ≤ at + n → length card ≤ at + k → read_at_most n card at ≡ read_at_most k card at
unfolding read_at_most
enough zero zero card at h g = refl
enough zero (suc k) card at h g = sym (ap (λ (p : Standing). read_by p (read_at_most k card)) (beyond_end card at (omega arith)))
enough (suc n) zero card at h g = ap (λ (p : Standing). read_by p (read_at_most n card)) (beyond_end card at (omega arith))
enough (suc n) (suc k) card at h g =
    alike (parsed_of at (drop at card)) (read_at_most n card) (read_at_most k card)
    (λ x next e. let w : at < next = (next_within at (drop at card) x next e).0 in enough n k card next (omega arith) (omega arith))

one_more : (n : ℕ) (card : List ℕ) (at : ℕ) → read_at_most (suc n) card at ≡ read_by (parsed_of at (drop at card)) (read_at_most n card)
unfolding read_at_most
one_more n card at = refl

-- what stands at a position, and the rest
pub read_on : (card : List ℕ) (at : ℕ) → read_from card at ≡ read_by (parsed_of at (drop at card)) (read_from card)
unfolding read_from
read_on card at = enough (length card) (suc (length card)) card at (omega arith) (omega arith) ∙ one_more (length card) card at

runs_by :
    (p : Standing) (at long : ℕ) (f : ℕ → Reading) → ((x : Command) (next : ℕ) → p ≡ reads x next → (at + 3 * is_run x ≤ next) × (next ≤ long))
    → ((next : ℕ) → 3 * runs_in (f next).commands ≤ long - next) → 3 * runs_in (read_by p f).commands ≤ long - at
unfolding runs_in
runs_by (Ok None) at long f w h = omega arith
runs_by (Err r) at long f w h = omega arith
runs_by (Ok (Some p)) at long f w h = omega (arith, h p.next, (w p.command p.next refl).0, (w p.command p.next refl).1)

runs_within : (n : ℕ) (card : List ℕ) (at : ℕ) → 3 * runs_in (read_at_most n card at).commands ≤ length card - at
unfolding read_at_most runs_in
runs_within zero card at = omega arith
runs_within (suc n) card at =
    runs_by (parsed_of at (drop at card)) at (length card) (read_at_most n card)
    (λ x next e. let w = next_within at (drop at card) x next e in (w.1.1, omega (arith, w.0, w.1.0, length-drop at card)))
    (runs_within n card)

runs_short :
    (t : Bool) (card : List ℕ) → (t ≡ true → length card ≤ card_size)
    → 3 * runs_in (cond t (read_from card 0) (reading [] (refused CardLength 0))).commands ≤ card_size
unfolding read_from runs_in
runs_short true card h = omega (arith, runs_within (length card) card 0, h refl)
runs_short false card h = omega arith

-- a card has at most 1,365 runs
pub runs_bound : (card : List ℕ) → 3 * runs_in (reading_of card).commands ≤ card_size
unfolding reading_of
runs_bound card = runs_short (leb (length card) card_size) card (leb-true (length card) card_size)

-- ---- a card that is read whole

short_by :
    (t : Bool) (r : Reading) → (cond t r (reading [] (refused CardLength 0))).validity ≡ Ok tt
    → (t ≡ true) × (cond t r (reading [] (refused CardLength 0)) ≡ r)
short_by true r e = (refl, refl)
short_by false r e = not_good _ e

-- a card that is read whole is not too long
pub read_whole : (card : List ℕ) → (reading_of card).validity ≡ Ok tt → (length card ≤ card_size) × (reading_of card ≡ read_from card 0)
unfolding reading_of
read_whole card e =
    let s = short_by (leb (length card) card_size) (read_from card 0) e in
    (leb-true (length card) card_size s.0, s.1)
