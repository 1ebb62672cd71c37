-- The tests that a card's call passed, what it then leaves, and that the image it leaves is good.
-- Assumes nothing.
use Rattle.std.specs.Prelude.{true, List, ◌≡◌, ℕ, ◌*◌, length, Ok}
use Rattle.call.specs.Call.{buffers}
use Rattle.call.specs.Laws.{good_does}
use Rattle.card.specs.Call.{card_call, executed_call, card_valid}
use Rattle.command.specs.Card.{reading_of, runs_in}
use Rattle.card.specs.Effect.{Effect, execute_of}
use Rattle.card.specs.Passed.{passed}
use Rattle.image.specs.Decode.{state_from}
use Rattle.layout.specs.Valid.{good_image}
use Rattle.report.specs.Layout.{report_size}
use Rattle.machine.specs.declared.State.{State}
use Rattle.roundtrip.proofs.Good.{good_encodes, image_long_lem}
use Rattle.roundtrip.proofs.Ranged.{image_bytes_lem}
use Rattle.roundtrip.proofs.Runs.{sound_decoded}
use Rattle.roundtrip.specs.Statement.{Bytes, SoundMachine}
use Rattle.joined.specs.Keeps.{execute_good}
use Rattle.joined.specs.Statement.{CardLeaves, Left}

-- ---- a call that passed them

-- what the commands of a card do from an image on
abbrev pub card_executed : List ℕ → List ℕ → List ℕ → Effect
card_executed m b card = execute_of (reading_of card).commands (state_from b) m

module _ (m b card rep : List ℕ) (good : card_valid (length m) b card (length rep) ≡ Ok tt) where
  pub call_is : card_call m b card rep ≡ executed_call (report_size * runs_in (reading_of card).commands) (card_executed m b card) rep
  unfolding card_call
  call_is = good_does (buffers m b rep) _ _ good

  module _ (memory : Bytes m) (image : Bytes b) (bytes : Bytes card) where
    pub call_keeps : SoundMachine (length m) (card_executed m b card).state (card_executed m b card).memory
    call_keeps =
        let fields : good_image b ≡ true = (passed (length m) b card (length rep) good).machine.image.fields in
        execute_good card bytes (state_from b) m (sound_decoded b image fields) memory

    leaves : Left m (card_call m b card rep)
    leaves =
        let st : State = (card_executed m b card).state in
        let k : SoundMachine (length m) st (card_executed m b card).memory = call_keeps in
        rw call_is
        (record {
          memory_bytes = k.bytes;
          memory_long = k.sized;
          image_bytes = image_bytes_lem st k.sound.good k.sound.ranged;
          image_long = image_long_lem st k.sound.good;
          image_good = good_encodes st k.sound.good;
        })

-- what a card leaves can be handed to another call
pub card_leaves : CardLeaves
card_leaves = leaves
