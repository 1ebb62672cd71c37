-- No time passes by the timers' bytes of the image in a card's call without 08.
-- Assumes nothing.
use Rattle.std.specs.Prelude.{Bool, false, true, List, ◌≡◌, refl, ℕ, ◌*◌, length, Err, Ok}
use Rattle.std.proofs.Common.{ap, ◌∙◌, arith}
use Rattle.card.specs.Call.{card_call, card_valid, executed_call}
use Rattle.command.specs.Card.{reading_of, runs_in}
use Rattle.image.specs.Decode.{state_from, timer_from}
use Rattle.image.specs.Image.{image_of}
use Rattle.joined.specs.Calls.{call_keeps, card_executed}
use Rattle.machine.specs.declared.State.{State}
use Rattle.call.specs.Call.{Call, buffers, called}
use Rattle.call.specs.Laws.{by_tests}
use Rattle.refusal.specs.declared.Refusal.{Refusal}
use Rattle.report.specs.Layout.{report_size}
use Rattle.roundtrip.proofs.Ranged.{decoded}
use Rattle.roundtrip.specs.Statement.{Bytes, SoundMachine}
use Rattle.times.specs.NoTime.{CallNoTime, CallSets, NoTime, WithoutTime, timer_at}
use Rattle.times.specs.Statement.{timer_of}
use Rattle.times.proofs.Steps.{card_no_time, restated, same, unset}

-- the timer of an image's state
pub timer_from_lem : (k : Bool) (b : List ℕ) → timer_from b (timer_at k) ≡ timer_of k (state_from b).timers
unfolding state_from
timer_from_lem false b = refl
timer_from_lem true b = refl

module _ (k : Bool) (m b card rep : List ℕ) (memory : Bytes m) (image : Bytes b) (bytes : Bytes card) where
  abbrev left : State
  left = (card_executed m b card).state

  -- the same of the image that a call leaves which passed its tests
  timer_left : card_valid (length m) b card (length rep) ≡ Ok tt → timer_from (image_of left) (timer_at k) ≡ timer_of k left.timers
  timer_left good =
      let kept : SoundMachine (length m) left (card_executed m b card).memory = call_keeps m b card rep good memory image bytes in
      timer_from_lem k (image_of left) ∙ ap (λ (s : State). timer_of k s.timers) (decoded left kept.sound.good kept.sound.ranged)

  module _ (without : WithoutTime (reading_of card).commands) where
    abbrev Quiet : Call → Type 0
    Quiet c = NoTime (CallSets k m b card rep) (timer_from b (timer_at k)) (timer_from c.lent.image (timer_at k))

    refused_quiet : (r : Refusal) → card_valid (length m) b card (length rep) ≡ Err r → Quiet (called (Err r) (buffers m b rep))
    refused_quiet r e = unset (λ s. let z : ◌≡◌ {A = ℕ} 0 1 = cc s.0 in omega arith) (same _)

    done_quiet :
        card_valid (length m) b card (length rep) ≡ Ok tt
        → Quiet (executed_call (report_size * runs_in (reading_of card).commands) (card_executed m b card) rep)
    done_quiet e =
        rw (timer_from_lem k b, timer_left e) (restated (λ s. (e, s)) (λ s. s.1) (card_no_time k (reading_of card).commands (state_from b) m without))

    image_no_time : Quiet (card_call m b card rep)
    unfolding card_call
    image_no_time = by_tests (buffers m b rep) _ Quiet (card_valid (length m) b card (length rep)) refused_quiet done_quiet

pub call_no_time : CallNoTime
call_no_time = image_no_time
