-- What both kinds of run share: their steps are those of the definition.
-- Assumes nothing.
use Rattle.std.specs.Prelude.{List, refl, ◌≡◌}
use Rattle.std.proofs.Common.{ap, sym, ◌∙◌}
use Prim.Native.Nat.{ℕ, suc, zero, ◌+◌, ◌<◌}
use Rattle.std.proofs.Math.Numerals.{one-add}
use native.Mathlib.Omega.{arith}
use Rattle.machine.specs.Answers.{states_of}
use Rattle.machine.specs.Run.{Ran, iterate, ran, unless_stopped}
use Rattle.machine.specs.Step.{step_of}
use Rattle.machine.specs.Through.{later}
use Rattle.machine.specs.declared.Condition.{Condition}
use Rattle.machine.specs.declared.Condition.TheVariants as condition
use Rattle.machine.specs.declared.Ending.{Ending}
use Rattle.machine.specs.declared.Ending.TheVariants as ending
use Rattle.machine.specs.declared.Event.{Event}
use Rattle.machine.specs.declared.State.{State}
use Rattle.counting.specs.Statement.{Runs, Stepped, states_sum}

-- what holds of a run, by the condition in which it finds the machine
pub unless_stopped_lem :
    (P : Ran → Type 0) (st : State) (m : List ℕ) (c : Condition) (r : Ran) → (c ≡ condition.Halted → P (ran st m 0 0 ending.Halted))
    → (c ≡ condition.Lost → P (ran st m 0 0 ending.Lost)) → (c ≡ condition.Running → P r) → P (unless_stopped c st m 0 0 r)
unless_stopped_lem P st m condition.Halted r halted lost on = halted refl
unless_stopped_lem P st m condition.Lost r halted lost on = lost refl
unless_stopped_lem P st m condition.Running r halted lost on = on refl

module _ (st : State) (m : List ℕ) where
  -- none
  pub no_steps : (left : ℕ) (x : Ending) → Stepped left st m (ran st m 0 0 x)
  unfolding iterate states_sum
  no_steps left x = record { within = omega arith; state = refl; memory = refl; states = refl; running = λ k h. absurd (omega arith) }

  -- one, and what it leads to
  abbrev pub next : State
  next = (step_of st m).state

  abbrev pub next_memory : List ℕ
  next_memory = (step_of st m).memory

  abbrev pub did : Event
  did = (step_of st m).event

  -- the states of a step and of those after it
  sum : (k : ℕ) → states_sum (suc k) st m ≡ states_of did + states_sum k next next_memory
  unfolding states_sum iterate
  sum zero = omega arith
  sum (suc k) = omega (arith, sum k)

  module _ (left : ℕ) (on : st.condition ≡ condition.Running) where
    runs_on : (n : ℕ) → Runs n next next_memory → Runs (suc n) st m
    unfolding iterate
    runs_on n h zero l = on
    runs_on n h (suc k) l = h k (omega arith)

    -- one before a run
    pub steps_on : (t : ℕ) → t ≡ states_of did → (r : Ran) → Stepped left next next_memory r → Stepped (suc left) st m (later 1 t r)
    unfolding iterate
    steps_on t e r x =
        rw one-add
        (record {
          within = omega arith;
          state = x.state;
          memory = x.memory;
          states = omega (arith, sum r.steps);
          running = runs_on r.steps x.running;
        })

-- Runs whose ending is told by the number of their steps (`end`), and of which none goes on where another has ended, are one.
module _ (allowance : ℕ) (st : State) (m : List ℕ) (end : ℕ → Ending) where
  run_after : ℕ → Ran
  run_after n = ran (iterate n st m).state (iterate n st m).memory n (states_sum n st m) (end n)

  is_run_lem : (r : Ran) → Stepped allowance st m r → r.ending ≡ end r.steps → r ≡ run_after r.steps
  unfolding run_after
  is_run_lem r x e = rw (← x.state, ← x.memory, ← x.states, ← e)

  pub two_are_one :
      (P : Ran → Type 0) → ((r : Ran) → P r → Stepped allowance st m r) → ((r : Ran) → P r → r.ending ≡ end r.steps)
      → ((r r' : Ran) → P r → P r' → ¬ (r.steps < r'.steps)) → (r r' : Ran) → P r → P r' → r ≡ r'
  two_are_one P stepped named further r r' p p' =
      let above : ¬ (r.steps < r'.steps) = further r r' p p' in
      let below : ¬ (r'.steps < r.steps) = further r' r p' p in
      let e : r.steps ≡ r'.steps = omega arith in
      is_run_lem r (stepped r p) (named r p) ∙ ap run_after e ∙ sym (is_run_lem r' (stepped r' p') (named r' p'))
