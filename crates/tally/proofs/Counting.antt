-- The loop that counts the runs of a card.
-- Assumes nothing.
use mathlib.Core.List.{[], List}
use mathlib.Core.Path.{◌∙◌, ◌≡◌}
use Prim.Native.Nat.{ℕ, ◌+◌, ◌≤◌}
use native.Mathlib.Nat.{add-zero}
use native.Mathlib.Omega.{arith}
use lib.ListN.{length}
use Rattle.refusal.specs.Refusal.{Validity}
use Rattle.command.specs.Card.{card_size, is_run, read_from, reading, runs_in}
use Rattle.command.specs.Laws.{one_at_most}
use Rattle.command.specs.declared.Command.{Command}
use Rattle.tally.specs.declared.CardValidity.{CardValidity}
use Rattle.command.specs.Turns.{Turn}

abbrev validity_with : Validity → ℕ → CardValidity
validity_with v n = record { validity = v; runs = n }

-- the invariant: so many runs stand in front of the position
pub record Counting (card : List ℕ) (at runs : ℕ) : Type 0 where
  pub validity : (read_from card 0).validity ≡ (read_from card at).validity
  pub total : runs_in (read_from card 0).commands ≡ runs + runs_in (read_from card at).commands
  pub within : at ≤ length card
  pub few : runs ≤ at

module _ {card : List ℕ} {at runs : ℕ} (so_far : Counting card at runs) where
  -- nothing more is read
  pub ended :
      {v : Validity} → length card ≤ card_size → read_from card at ≡ reading [] v
      → (validity_with v runs ≡ validity_with (read_from card 0).validity (runs_in (read_from card 0).commands)) × (runs ≤ card_size)
  unfolding runs_in
  ended {v} short e =
      let total : runs_in (read_from card 0).commands ≡ runs = so_far.total ∙ rw e (add-zero runs) in
      (rw (total, so_far.validity, e), omega arith)

  -- a command more is counted
  pub goes_on : {x : Command} {next one : ℕ} → Turn card at x next → one ≡ is_run x → Counting card next (runs + one)
  unfolding runs_in
  goes_on {x} {next} turn f =
      let more : runs_in (read_from card at).commands ≡ is_run x + runs_in (read_from card next).commands = rw turn.read in
      let one-run : is_run x ≤ 1 = one_at_most x in
      record {
        validity = so_far.validity ∙ rw turn.read;
        total = omega arith;
        within = turn.within so_far.within;
        few = omega arith;
      }
