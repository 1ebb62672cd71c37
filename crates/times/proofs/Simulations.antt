-- No time passes in a simulation of the winder, nor by the timers' bytes of the image that it leaves.
-- Assumes nothing.
use Rattle.std.specs.Prelude.{Bool, List, ◌≡◌, refl, ℕ, suc, zero, length, Err, Ok}
use Rattle.std.proofs.Common.{ap, ◌∙◌, arith}
use Rattle.call.specs.Call.{Answer, Called, called}
use Rattle.call.specs.Laws.{by_tests}
use Rattle.call.specs.Passed.{machine_good}
use Rattle.counting.proofs.Through.{through_counted}
use Rattle.image.specs.Decode.{state_from, timer_from}
use Rattle.image.specs.Image.{image_of}
use Rattle.machine.specs.Run.{through_of}
use Rattle.machine.specs.declared.State.{State}
use Rattle.refusal.specs.Laws.{then_good}
use Rattle.refusal.specs.declared.Refusal.{Refusal}
use Rattle.roundtrip.proofs.Ranged.{decoded}
use Rattle.roundtrip.proofs.Runs.{sound_decoded}
use Rattle.roundtrip.specs.Statement.{Bytes, Sound}
use Rattle.winder.specs.Call.{Lent, lent, simulated_call, wind_call, wind_valid}
use Rattle.winder.specs.Simulation.{Winder, after_tick, start_of, tick_of, ticks_of, winder_of}
use Rattle.winder.specs.declared.Settings.{Settings}
use Rattle.winder.specs.declared.Stage.{Stage}
use Rattle.windings.proofs.Calls.{start_sound, ticks_sound}
use Rattle.times.proofs.CardCalls.{timer_from_lem}
use Rattle.times.specs.NoTime.{NoTime, SetsWithin, TicksNoTime, TicksSet, WindNoTime, WindSets, timer_at}
use Rattle.times.specs.Statement.{timer_of}
use Rattle.times.proofs.Steps.{iterate_no_time, onward, restated, same, unset}

-- ---- ticks

tick_no_time :
    (k : Bool) (w : Winder) (at : Stage) (m : List ℕ)
    → NoTime (SetsWithin k (through_of w.steps at.state m).steps at.state m) (timer_of k at.state.timers)
    (timer_of k (tick_of w at m).stage.state.timers)
unfolding tick_of after_tick
tick_no_time k w at m =
    rw (through_counted w.steps at.state m).stepped.state
    (iterate_no_time k (through_of w.steps at.state m).steps at.state m)

pub ticks_no_time : TicksNoTime
unfolding TicksSet ticks_of
ticks_no_time k w zero at m = unset (λ s. s) (same _)
ticks_no_time k w (suc n) at m = onward (tick_no_time k w at m) (ticks_no_time k w n (tick_of w at m).stage (tick_of w at m).memory)

-- ---- the call

module _ (k : Bool) (m b : List ℕ) (s : Settings) (places : List ℕ) (memory : Bytes m) (image : Bytes b) where
  abbrev left : State
  left = (ticks_of (winder_of s) s.ticks (start_of (state_from b)) m).stage.state

  -- the timer of the image that is left
  timer_left : wind_valid (length m) b s (length places) ≡ Ok tt → timer_from (image_of left) (timer_at k) ≡ timer_of k left.timers
  timer_left e =
      let start : Sound (start_of (state_from b)).state =
      start_sound (state_from b) (sound_decoded b image (machine_good (length m) b (then_good _ _ e).0).image.fields) in
      let sound : Sound left =
      (ticks_sound (winder_of s) (length m) s.ticks (start_of (state_from b)) m (record { sound = start; bytes = memory; sized = refl })).sound in
      timer_from_lem k (image_of left) ∙ ap (λ (x : State). timer_of k x.timers) (decoded left sound.good sound.ranged)

  abbrev Quiet : Called Answer Lent → Type 0
  Quiet c = NoTime (WindSets k m b s places) (timer_from b (timer_at k)) (timer_from c.lent.image (timer_at k))

  refused_quiet : (r : Refusal) → wind_valid (length m) b s (length places) ≡ Err r → Quiet (called (Err r) (lent m b places))
  refused_quiet r e = unset (λ x. let z : ◌≡◌ {A = ℕ} 0 1 = cc x.0 in omega arith) (same _)

  done_quiet : wind_valid (length m) b s (length places) ≡ Ok tt → Quiet (simulated_call (winder_of s) s.ticks m b places)
  unfolding start_of
  done_quiet e =
      rw (timer_from_lem k b, timer_left e)
      (restated (λ x. (e, x)) (λ x. x.1) (ticks_no_time k (winder_of s) s.ticks (start_of (state_from b)) m))

  image_no_time : Quiet (wind_call m b s places)
  unfolding wind_call
  image_no_time = by_tests (lent m b places) _ Quiet (wind_valid (length m) b s (length places)) refused_quiet done_quiet

pub wind_no_time : WindNoTime
wind_no_time = image_no_time
