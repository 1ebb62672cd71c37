-- The simulation. Document 02, 5/14, "A winder to try settings on".
-- Assumes nothing.
use Rattle.std.specs.Prelude.{false, List, [], ◌∷◌, suc, zero, ℕ, ◌+◌, ◌-◌}
use Rattle.barrel.specs.Barrel.{first_over, input_with, is_over, reached, taken_at, wound_by}
use Rattle.machine.specs.Run.{Ran, through_of}
use Rattle.machine.specs.State.{with_input}
use Rattle.machine.specs.declared.State.{State}
use Rattle.winder.specs.declared.Settings.{Settings}
use Rattle.winder.specs.declared.Stage.{Stage}

-- what a simulation goes by, however many its ticks are: the label's turns, the notches per turn, the run-down and the steps in a tick
pub record Winder : Type 0 where
  pub turns : ℕ
  pub notches : ℕ
  pub rundown : ℕ
  pub steps : ℕ

abbrev pub winder_of : Settings → Winder
winder_of s = record { turns = s.turns; notches = s.notches; rundown = s.rundown; steps = s.steps }

-- a stage, and the memory beside it
pub record Simulated : Type 0 where
  pub stage : Stage
  pub memory : List ℕ

abbrev pub simulated : Stage → List ℕ → Simulated
simulated at m = record { stage = at; memory = m }

-- "The barrel starts with no notch standing"; the input bit "for the first tick ... is clear"
unfoldable pub start_of : State → Stage
start_of st = record { tick = 0; standing = 0; over = 0; state = with_input st (input_with false st.ports.input) }

-- what tick number `tick` leaves, so many standing after it: `before` is the first tick over of those before it, or 0, and `st` what the steps
-- have led to
unfoldable pub after_tick : ℕ → ℕ → ℕ → State → ℕ → ℕ → Stage
after_tick turns notches before st tick standing =
    record {
      tick = tick;
      standing = standing;
      over = first_over before tick (is_over turns notches standing);
      state = with_input st (input_with (reached turns notches standing) st.ports.input);
    }

-- "Per tick, the machine gets a set number of steps, carrying on through kernel entries, until halted or lost." Then it winds, then the
-- train takes.
unfoldable pub tick_of : Winder → Stage → List ℕ → Simulated
tick_of w at m =
    let r : Ran = through_of w.steps at.state m in
    let tick : ℕ = at.tick + 1 in
    let wound : ℕ = at.standing + wound_by r.state.ports.output in
    simulated (after_tick w.turns w.notches at.over r.state tick (wound - taken_at w.rundown tick wound)) r.memory

-- so many ticks
unfoldable pub ticks_of : Winder → ℕ → Stage → List ℕ → Simulated
ticks_of w zero at m = simulated at m
ticks_of w (suc n) at m = let x : Simulated = tick_of w at m in ticks_of w n x.stage x.memory

-- "the standing notches after each tick"
unfoldable pub standings : Winder → ℕ → Stage → List ℕ → List ℕ
standings w zero at m = []
standings w (suc n) at m = let x : Simulated = tick_of w at m in x.stage.standing ∷ standings w n x.stage x.memory
