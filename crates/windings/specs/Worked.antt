-- Simulations worked out. The machine is halted or lost, so that its output byte stays, and the ticks go on; the label is 1 turn of 2 notches.
-- Assumes nothing.
use Rattle.std.specs.Prelude.{List, [], ◌∷◌, refl, ◌≡◌, ℕ}
use Rattle.barrel.specs.Barrel.{first_over}
use Rattle.machine.specs.Run.{through_from, through_of}
use Rattle.machine.specs.State.{with_condition, with_ports}
use Rattle.machine.specs.declared.Condition.{Condition}
use Rattle.machine.specs.declared.Condition.TheVariants as condition
use Rattle.machine.specs.declared.State.{State}
use Rattle.winder.specs.Simulation.{Simulated, Winder, after_tick, standings, start_of, tick_of, ticks_of}
use Rattle.winder.specs.declared.Stage.{Stage}
use Rattle.windings.specs.Statement.{taken, wound}

abbrev winder : ℕ → Winder
winder rundown = record { turns = 1; notches = 2; rundown = rundown; steps = 1 }

-- a machine that has stopped, with this output byte and input byte FFh, whatever else its state is
abbrev start : Condition → ℕ → State → Stage
start stopped output st = start_of (with_ports (with_condition st stopped) (record { input = 255; output = output }))

-- what stands after each of seven ticks
abbrev stood : ℕ → Condition → ℕ → State → List ℕ → List ℕ
stood rundown stopped output st m = standings (winder rundown) 7 (start stopped output st) m

-- after so many ticks, the train taking at every third
abbrev after : ℕ → State → List ℕ → Simulated
after n st m = ticks_of (winder 3) n (start condition.Halted 1 st) m

pub record WorkedWindings (st : State) (m : List ℕ) : Type 0 where
  -- every third tick takes one, the first time at tick 3
  pub third : stood 3 condition.Halted 1 st m ≡ 1 ∷ 2 ∷ 2 ∷ 3 ∷ 4 ∷ 4 ∷ 5 ∷ []
  pub lost : stood 3 condition.Lost 1 st m ≡ 1 ∷ 2 ∷ 2 ∷ 3 ∷ 4 ∷ 4 ∷ 5 ∷ []
  -- winding comes before taking: what each tick winds, it takes
  pub each : stood 1 condition.Halted 1 st m ≡ 0 ∷ 0 ∷ 0 ∷ 0 ∷ 0 ∷ 0 ∷ 0 ∷ []
  -- bit 0 of the output byte winds, and no other; none is taken where none is left
  pub still : stood 1 condition.Halted 254 st m ≡ 0 ∷ 0 ∷ 0 ∷ 0 ∷ 0 ∷ 0 ∷ 0 ∷ []
  pub both : stood 3 condition.Halted 255 st m ≡ stood 3 condition.Halted 1 st m
  -- 3, after tick 4, is the first that is more than 2
  pub over : (after 7 st m).stage.over ≡ 4
  pub held : (after 3 st m).stage.over ≡ 0
  pub wound : wound (winder 3) 7 (start condition.Halted 1 st) m ≡ 7
  pub taken : taken (winder 3) 7 (start condition.Halted 1 st) m ≡ 2
  -- the input bit is clear for the first tick, and set from where a whole turn stands
  pub clear : (after 0 st m).stage.state.ports.input ≡ 254
  pub begun : (after 1 st m).stage.state.ports.input ≡ 254
  pub whole : (after 2 st m).stage.state.ports.input ≡ 255

-- `worked_windings`
pub worked_windings : (st : State) (m : List ℕ) → WorkedWindings st m
unfolding standings ticks_of tick_of after_tick start_of through_of through_from first_over wound taken
worked_windings st m =
    record {
      third = refl;
      lost = refl;
      each = refl;
      still = refl;
      both = refl;
      over = refl;
      held = refl;
      wound = refl;
      taken = refl;
      clear = refl;
      begun = refl;
      whole = refl;
    }
