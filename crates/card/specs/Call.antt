-- The tests of a card's call, and what it answers and leaves in the lent buffers.
-- Assumes nothing.
use Rattle.std.specs.Prelude.{List, [], ◌++◌, ℕ, ◌*◌, drop, length, Err, Ok}
use Rattle.call.specs.Call.{Call, buffers, called, unless_refused}
use Rattle.call.specs.Valid.{machine_valid, report_fits}
use Rattle.command.specs.Card.{reading_of, runs_in}
use Rattle.command.specs.declared.Command.{Command}
use Rattle.image.specs.Decode.{state_from}
use Rattle.image.specs.Image.{image_of}
use Rattle.refusal.specs.Refusal.{Validity, and_then}
use Rattle.report.specs.Layout.{report_size}
use Rattle.card.specs.Effect.{Effect, execute_of}

-- the tests of a card's call: memory and image (1 to 3), the card (4 to 7), then "report under 12 × runs" (8)
unfoldable pub card_valid : ℕ → List ℕ → List ℕ → ℕ → Validity
card_valid long image card report =
    and_then (and_then (machine_valid long image) (reading_of card).validity)
    (report_fits report (report_size * runs_in (reading_of card).commands))

-- given is the number of report bytes filled, 12 × runs; "bytes behind it keep their values"
abbrev pub executed_call : ℕ → Effect → List ℕ → Call
executed_call filled p rep = called (Ok filled) (buffers p.memory (image_of p.state) (p.reports ++ drop filled rep))

-- a card
unfoldable pub card_call : List ℕ → List ℕ → List ℕ → List ℕ → Call
card_call m b card rep =
    let commands : List Command = (reading_of card).commands in
    unless_refused (card_valid (length m) b card (length rep)) (buffers m b rep)
    (executed_call (report_size * runs_in commands) (execute_of commands (state_from b) m) rep)

abbrev pub if_good : Validity → List ℕ → List ℕ
if_good (Err r) bytes = []
if_good (Ok u) bytes = bytes

-- "The filled front part of the caller's report is handed back, empty on a refusal"
unfoldable pub filled_part : List ℕ → List ℕ → List ℕ → List ℕ → List ℕ
filled_part m b card rep =
    if_good (card_valid (length m) b card (length rep)) (execute_of (reading_of card).commands (state_from b) m).reports
