-- A run from a good state ends in a good one, from a sound machine in a sound one of its length, and the image that it leaves is good if the
-- image that it began with is.
-- Assumes nothing.
use Rattle.std.specs.Prelude.{true, List, ◌≡◌, refl, ℕ, length}
use Rattle.std.proofs.Common.{◌∙◌}
use Rattle.image.specs.Decode.{state_from}
use Rattle.layout.specs.Valid.{good_image}
use Rattle.machine.specs.Kept.{step_memory_long}
use Rattle.machine.specs.Step.{step_of}
use Rattle.machine.specs.StepLaws.{run_keeps, through_keeps}
use Rattle.machine.specs.declared.State.{State}
use Rattle.roundtrip.proofs.Good.{good_decoded, good_encodes}
use Rattle.roundtrip.proofs.Ranged.{ranged_decoded}
use Rattle.roundtrip.proofs.RangedSteps.{step_ranged}
use Rattle.roundtrip.specs.Statement.{Bytes, GoodState, RunGood, RunImage, RunRanged, RunSound, Sound, SoundMachine, ThroughSound}
use Rattle.roundtrip.proofs.Steps.{step_good}

pub run_good : RunGood
run_good = run_keeps (λ (s : State) (l : List ℕ). GoodState s) step_good

step_sound : (long : ℕ) (st : State) (m : List ℕ) → SoundMachine long st m → SoundMachine long (step_of st m).state (step_of st m).memory
step_sound long st m x =
    let r = step_ranged st m x.sound.good x.sound.ranged x.bytes in
    record { sound = record { good = step_good st m x.sound.good; ranged = r.0 }; bytes = r.1; sized = step_memory_long st m ∙ x.sized }

pub run_sound : RunSound
run_sound long = run_keeps (SoundMachine long) (step_sound long)

pub through_sound : ThroughSound
through_sound long = through_keeps (SoundMachine long) (step_sound long)

pub run_ranged : RunRanged
run_ranged n st m g r b =
    let left = run_sound (length m) n st m (record { sound = record { good = g; ranged = r }; bytes = b; sized = refl }) in
    (left.sound.ranged, left.bytes)

-- the state of a good image is sound
pub sound_decoded : (b : List ℕ) → Bytes b → good_image b ≡ true → Sound (state_from b)
sound_decoded b bytes good = record { good = good_decoded b bytes good; ranged = ranged_decoded b bytes }

pub run_image : RunImage
run_image n b m small g = good_encodes _ (run_good n (state_from b) m (good_decoded b small g))
