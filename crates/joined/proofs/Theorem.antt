-- Two cards handed in one after the other do what they do as one card.
-- Assumes nothing.
use Rattle.std.specs.Prelude.{List, ◌++◌, ◌≡◌, ℕ, ◌*◌, ◌+◌, ◌≤◌, drop, length, Ok}
use Rattle.std.proofs.Common.{append_assoc, ap, ◌∙◌, arith, length-drop, drop_at, drop-drop, take_at}
use Rattle.card.specs.Call.{executed_call, card_valid}
use Rattle.command.specs.Card.{reading_of, runs_in}
use Rattle.card.specs.Laws.{all_reports_long}
use Rattle.card.specs.Effect.{Effect, execute_of}
use Rattle.card.specs.Passed.{Passed, passed, passes}
use Rattle.command.specs.declared.Command.{Command}
use Rattle.call.specs.Call.{Call, given_by}
use Rattle.image.specs.Decode.{state_from}
use Rattle.report.specs.Layout.{report_size}
use Rattle.roundtrip.proofs.Ranged.{decoded}
use Rattle.roundtrip.specs.Statement.{SoundMachine}
use Rattle.joined.specs.Calls.{call_is, call_keeps, card_leaves, card_executed}
use Rattle.joined.specs.Executing.{onward, execute_both, runs_both}
use Rattle.joined.specs.Reading.{commands_joined, joined_good, second_good_lem}
use Rattle.joined.specs.Statement.{Apart, AsOne, Given, JointGood, Left, TwoAsOne, first_call, image_left, joint_call, memory_left, report_left, second_call}

-- ---- both cards' commands

abbrev commands : List ℕ → List Command
commands card = (reading_of card).commands

all_runs :
    (a c : List ℕ) → (reading_of a).validity ≡ Ok tt → (reading_of (a ++ c)).validity ≡ Ok tt
    → runs_in (commands (a ++ c)) ≡ runs_in (commands a) + runs_in (commands c)
all_runs a c g h = ap runs_in (commands_joined a c g h) ∙ runs_both (commands a) (commands c)

module _ (m b a c rep : List ℕ) where
  -- what the first card does, and then the second
  abbrev one : Effect
  one = card_executed m b a

  abbrev two : Effect
  two = execute_of (commands c) one.state one.memory

  -- ---- the first call

  -- the report bytes that it fills
  abbrev filled : ℕ
  filled = report_size * runs_in (commands a)

  module _ (good : card_valid (length m) b a (length rep) ≡ Ok tt) where
    first_is : first_call m b a c rep ≡ executed_call filled one rep
    first_is = call_is m b a rep good

    memory_is : memory_left m b a c rep ≡ one.memory
    memory_is = ap (λ (x : Call). x.lent.memory) first_is

    rest_is : report_left m b a c rep ≡ drop filled rep
    rest_is =
        ap (λ (x : Call). drop (given_by x.answer) x.lent.report) first_is
        ∙ drop_at one.reports (drop filled rep) filled (all_reports_long (commands a) (state_from b) m)

  -- ---- both calls pass their tests: so does the joint one

  joint_passes : Apart m b a c rep → card_valid (length m) b (a ++ c) (length rep) ≡ Ok tt
  joint_passes x =
      let p : Passed (length m) b a (length rep) = passed (length m) b a (length rep) x.first_good in
      let q : Passed _ _ c (length (report_left m b a c rep)) = passed _ _ c (length (report_left m b a c rep)) x.second_good in
      let left : report_size * runs_in (commands c) ≤ length (drop filled rep) = rw (rest_is x.first_good) at q.room in
      let card : (reading_of (a ++ c)).validity ≡ Ok tt = joined_good a c p.read q.read x.short in
      passes (length m) b (a ++ c) (length rep)
      (record {
        machine = p.machine;
        read = card;
        room = omega (arith, all_runs a c p.read card, length-drop filled rep);
      })

  -- ---- the joint call passes its tests, and the first card is good

  module _ (given : Given m b a c rep) where
    joint : Passed (length m) b (a ++ c) (length rep)
    joint = passed (length m) b (a ++ c) (length rep) given.joint_good

    runs : runs_in (commands (a ++ c)) ≡ runs_in (commands a) + runs_in (commands c)
    runs = all_runs a c given.first_card joint.read

    first_passes : card_valid (length m) b a (length rep) ≡ Ok tt
    first_passes =
        passes (length m) b a (length rep)
        (record {
          machine = joint.machine;
          read = given.first_card;
          room = omega (arith, joint.room, runs);
        })

    -- the state between the cards comes back out of its image
    between : state_from (image_left m b a c rep) ≡ one.state
    between =
        let k : SoundMachine (length m) one.state one.memory =
        call_keeps m b a rep first_passes given.memory_bytes given.image_bytes given.card_bytes in
        ap (λ (x : Call). state_from x.lent.image) (first_is first_passes) ∙ decoded one.state k.sound.good k.sound.ranged

    left : Left m (first_call m b a c rep)
    left = card_leaves m b a rep first_passes given.memory_bytes given.image_bytes given.card_bytes

    second_passes : card_valid (length (memory_left m b a c rep)) (image_left m b a c rep) c (length (report_left m b a c rep)) ≡ Ok tt
    second_passes =
        passes _ _ c (length (report_left m b a c rep))
        (record {
          machine = record { memory = left.memory_long ∙ joint.machine.memory; image = record { size = left.image_long; fields = left.image_good } };
          read = second_good_lem a c given.first_card joint.read;
          room = rw (rest_is first_passes) (omega (arith, joint.room, runs, length-drop filled rep));
        })

    second_is : second_call m b a c rep ≡ executed_call (report_size * runs_in (commands c)) two (drop filled rep)
    second_is =
        call_is (memory_left m b a c rep) (image_left m b a c rep) c (report_left m b a c rep) second_passes
        ∙ rw (rest_is first_passes, between, memory_is first_passes)

    joint_is : joint_call m b a c rep ≡ executed_call (filled + report_size * runs_in (commands c)) (onward (commands c) one) rep
    joint_is =
        let all : report_size * runs_in (commands (a ++ c)) ≡ filled + report_size * runs_in (commands c) = omega (arith, runs) in
        call_is m b (a ++ c) rep given.joint_good
        ∙ rw (all, commands_joined a c given.first_card joint.read, execute_both (commands a) (commands c) (state_from b) m)

    -- the two calls do what the joint one does
    do_as_one : AsOne m b a c rep
    do_as_one =
        let f : first_call m b a c rep ≡ executed_call filled one rep = first_is first_passes in
        record {
          first_good = first_passes;
          second_good = second_passes;
          memory = rw (joint_is, second_is);
          image = rw (joint_is, second_is);
          answer = rw (joint_is, second_is, f);
          report =
              rw (
                joint_is,
                second_is,
                f,
                take_at one.reports (drop filled rep) filled (all_reports_long (commands a) (state_from b) m),
                drop-drop (report_size * runs_in (commands c)) filled rep,
                append_assoc,
              );
        }

pub as_one : TwoAsOne
as_one = do_as_one

pub joint_good_lem : JointGood
joint_good_lem = joint_passes
