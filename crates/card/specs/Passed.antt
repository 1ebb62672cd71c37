-- What a card's call knows that passed its tests.
-- Assumes nothing.
use Rattle.std.specs.Prelude.{List, ◌≡◌, ℕ, ◌*◌, ◌≤◌, Ok}
use Rattle.call.specs.Passed.{MachineGood, machine_good, machine_passes, report_good, report_passes}
use Rattle.call.specs.Valid.{machine_valid, report_fits}
use Rattle.refusal.specs.Laws.{then_good}
use Rattle.report.specs.Layout.{report_size}
use Rattle.command.specs.Card.{reading_of, runs_in}
use Rattle.card.specs.Call.{card_valid}

-- memory and image are good, the card is read whole, and the report is long enough for its runs
pub record Passed (long : ℕ) (image card : List ℕ) (report : ℕ) : Type 0 where
  pub machine : MachineGood long image
  pub read : (reading_of card).validity ≡ Ok tt
  pub room : report_size * runs_in (reading_of card).commands ≤ report

module _ (long : ℕ) (image card : List ℕ) (report : ℕ) where
  pub passed : card_valid long image card report ≡ Ok tt → Passed long image card report
  unfolding card_valid
  passed e =
      let all = then_good _ (report_fits report (report_size * runs_in (reading_of card).commands)) e in
      let first = then_good (machine_valid long image) (reading_of card).validity all.0 in
      record { machine = machine_good long image first.0; read = first.1; room = report_good report _ all.1 }

  pub passes : Passed long image card report → card_valid long image card report ≡ Ok tt
  unfolding card_valid
  passes p = rw (machine_passes long image p.machine, p.read) (report_passes report _ p.room)
