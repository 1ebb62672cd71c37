-- What a simulation leaves of what it is lent.
-- Assumes nothing.
use Rattle.std.proofs.Math.Bool.{Bool}
use Rattle.std.specs.Prelude.{false, List, ◌++◌, refl, ◌≡◌, drop, get_or, length}
use Rattle.std.proofs.Common.{ap, sym, ◌∙◌, add-one, arith, length-append, length-drop, drop_at}
use Prim.Native.Nat.{suc, zero, ℕ, ◌*◌, ◌+◌, ◌-◌, ◌<◌, ◌≤◌}
use Rattle.barrel.specs.Barrel.{input_with, reached}
use Rattle.barrel.specs.Laws.{input_small}
use Rattle.call.specs.Passed.{machine_good, machine_passes}
use Rattle.endian.specs.Bytes.{byte_from, word_bytes, word_from}
use Rattle.endian.specs.Laws.{laid_long, word_at_lem, words_laid}
use Rattle.image.specs.Decode.{state_from}
use Rattle.image.specs.Image.{image_of}
use Rattle.layout.specs.Layout.{input_at}
use Rattle.machine.specs.Run.{through_of}
use Rattle.machine.specs.State.{with_input}
use Rattle.machine.specs.declared.State.{State}
use Rattle.refusal.specs.Laws.{then_good}
use Rattle.roundtrip.proofs.Good.{good_encodes, image_long_lem}
use Rattle.roundtrip.proofs.Ranged.{decoded, image_bytes_lem}
use Rattle.roundtrip.proofs.Runs.{sound_decoded, through_sound}
use Rattle.roundtrip.specs.Statement.{Sound, SoundMachine}
use Rattle.winder.specs.Bounds.{settings_good_lem}
use Rattle.winder.specs.Call.{settings_valid, wind_call}
use Rattle.winder.specs.Laws.{standings_long}
use Rattle.winder.specs.Simulation.{Simulated, Winder, after_tick, standings, start_of, tick_of, ticks_of, winder_of}
use Rattle.winder.specs.declared.Stage.{Stage}
use Rattle.windings.specs.Input.{input_rule}
use Rattle.windings.specs.Statement.{CallsLeft, RefusedBefore, RefusedNine, standing_in}
use Rattle.windings.proofs.Theorem.{balance, first, first_same, stands}

-- ---- sound states

input_sound : (b : Bool) (s : State) → Sound s → Sound (with_input s (input_with b s.ports.input))
input_sound b s h =
    let g = h.good in
    let r = h.ranged in
    let fits : input_with b s.ports.input < 256 = input_small b s.ports.input r.read in
    record { good = search (g, g.zeros); ranged = search (r, r.words, r.entries) }

module _ (w : Winder) (long : ℕ) where
  tick_sound :
      (at : Stage) (m : List ℕ) → SoundMachine long at.state m → SoundMachine long (tick_of w at m).stage.state (tick_of w at m).memory
  unfolding tick_of after_tick
  tick_sound at m h =
      let t = through_sound long w.steps at.state m h in
      let set : Bool = reached w.turns w.notches (tick_of w at m).stage.standing in
      record { sound = input_sound set (through_of w.steps at.state m).state t.sound; bytes = t.bytes; sized = t.sized }

  pub ticks_sound :
      (n : ℕ) (at : Stage) (m : List ℕ) → SoundMachine long at.state m
      → SoundMachine long (ticks_of w n at m).stage.state (ticks_of w n at m).memory
  unfolding ticks_of
  ticks_sound zero at m h = h
  ticks_sound (suc n) at m h = ticks_sound n (tick_of w at m).stage (tick_of w at m).memory (tick_sound at m h)

-- ---- the call

input_of : (s : State) → Sound s → byte_from (image_of s) input_at ≡ s.ports.input
unfolding state_from
input_of s h = ap (λ (x : State). x.ports.input) (decoded s h.good h.ranged)

input_from : (b : List ℕ) → (state_from b).ports.input ≡ byte_from b input_at
unfolding state_from
input_from b = refl

pub start_sound : (st : State) → Sound st → Sound (start_of st).state
unfolding start_of
start_sound st h = input_sound false st h

start_none : (st : State) → (start_of st).standing ≡ 0
unfolding start_of
start_none st = refl

-- what the places say of so many ticks
standing_in_lem :
    (w : Winder) (st : State) (m places : List ℕ) (n : ℕ)
    → ((k : ℕ) → k < n → word_from places (2 * k) ≡ (ticks_of w (k + 1) (start_of st) m).stage.standing)
    → (i : ℕ) → i ≤ n → standing_in places i ≡ (ticks_of w i (start_of st) m).stage.standing
unfolding ticks_of
standing_in_lem w st m places n place zero l = sym (start_none st)
standing_in_lem w st m places n place (suc k) l = rw (← add-one k) (place k (omega arith))

pub call_left : CallsLeft
unfolding wind_call
call_left s m b places mb bb e =
    let both = then_good _ _ e in
    let machine = machine_good (length m) b both.0 in
    let bounds = settings_good_lem s (length places) both.1 in
    let n : ℕ = s.ticks in
    let st : State = state_from b in
    let w : Winder = winder_of s in
    let stood : List ℕ = standings w n (start_of st) m in
    let last : Simulated = ticks_of w n (start_of st) m in
    let left : List ℕ = word_bytes stood ++ drop (2 * n) places in
    let count : length stood ≡ n = standings_long w n (start_of st) m in
    let size : length (word_bytes stood) ≡ 2 * n = laid_long words_laid stood ∙ omega (arith, count) in
    let start : Sound (start_of st).state = start_sound st (sound_decoded b bb machine.image.fields) in
    let kept = ticks_sound w (length m) n (start_of st) m (record { sound = start; bytes = mb; sized = refl }) in
    let sound : Sound last.stage.state = kept.sound in
    let one : suc (n - 1) ≡ n = omega (arith, bounds.0.ticks.least) in
    let word : (k : ℕ) → k < n → word_from left (2 * k) ≡ get_or stood k 0 =
    λ k h. word_at_lem stood (drop (2 * n) places) k (omega (arith, count)) (omega (arith, (stands w n st m k h).small, bounds.0.ticks.most)) in
    let place : (k : ℕ) → k < n → word_from left (2 * k) ≡ (ticks_of w (k + 1) (start_of st) m).stage.standing =
    λ k h. word k h ∙ (stands w n st m k h).left in
    let standing : (i : ℕ) → i ≤ n → standing_in left i ≡ (ticks_of w i (start_of st) m).stage.standing = standing_in_lem w st m left n place in
    rw e
    (record {
      place = place;
      small = λ k h. rw (word k h) (stands w n st m k h).small;
      answer = refl;
      first = first_same (λ k. get_or stood k 0) (λ k. word_from left (2 * k)) word (first w n st m);
      balance = λ i k h. rw (standing i (omega arith), standing (i + k) h) (balance w i k (start_of st) m);
      behind = drop_at (word_bytes stood) (drop (2 * n) places) (2 * n) size;
      long = length-append (word_bytes stood) (drop (2 * n) places) ∙ omega (arith, size, length-drop (2 * n) places, bounds.1);
      memory_bytes = kept.bytes;
      image_bytes = image_bytes_lem last.stage.state sound.good sound.ranged;
      again =
          machine_passes _ _
          (record {
            memory = kept.sized ∙ machine.memory;
            image = record { size = image_long_lem last.stage.state sound.good; fields = good_encodes last.stage.state sound.good };
          });
      lower = rw (input_of last.stage.state sound, standing n (omega arith)) (rw one at (input_rule w st m (n - 1)).set);
      upper = rw (input_of last.stage.state sound, ← input_from b) (input_rule w st m n).kept;
    })

pub refused_nine : RefusedNine
unfolding wind_call settings_valid
refused_nine s m b places g e = rw (g, e)

pub refused_before : RefusedBefore
unfolding wind_call
refused_before s m b places r e = rw e
