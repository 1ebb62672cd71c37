-- What plain instructions add to a run, and a step by the test for an entry that the code makes.
-- Assumes nothing.
use mathlib.Core.Bool.{Bool, false, true}
use mathlib.Core.List.{List}
use mathlib.Core.Path.{ap, refl, ◌∙◌, ◌≡◌}
use Prim.Native.Nat.{ℕ, ◌*◌, ◌+◌, ◌-◌, ◌≤◌}
use native.Mathlib.Omega.{arith}
use Rattle.machine.proofs.Turn.{Reached, after_event, goes_on}
use Rattle.machine.specs.Answers.{states_of}
use Rattle.machine.specs.Run.{Ran, go_from}
use Rattle.machine.specs.Step.{answer, step_of}
use Rattle.machine.specs.declared.Condition.TheVariants.{Running}
use Rattle.machine.specs.declared.Event.{Event}
use Rattle.machine.specs.declared.Event.TheVariants as event
use Rattle.machine.specs.declared.State.{State}
use Rattle.machine.specs.declared.Stepped.{Stepped}
use Rattle.runner.specs.Goes.{Goes, goes_run}

-- an event that is no entry
unentered :
    (through : Bool) (x : Event) → ((number pc flag : ℕ) → x ≡ event.Entered number pc flag → ⊥) → (st : State) (m : List ℕ) (n t : ℕ) (rest : Ran)
    → after_event through x st m n t rest ≡ rest
unentered true x k st m n t rest = refl
unentered false (event.Executed cost) k st m n t rest = refl
unentered false (event.Entered number pc flag) k st m n t rest = absurd (k number pc flag refl)
unentered false event.Halted k st m n t rest = refl
unentered false event.Lost k st m n t rest = refl

module _ {through : Bool} {allowance : ℕ} {st₀ : State} {m₀ : List ℕ} {st : State} {m : List ℕ} {n t : ℕ} where
  -- plain instructions
  pub onward :
      Reached through allowance st₀ m₀ st m n t → {st' : State} {m' : List ℕ} {k s : ℕ} → Goes st m k s st' m' → k ≤ allowance - n → s ≤ 65535 * k
      → Reached through allowance st₀ m₀ st' m' (n + k) (t + s)
  onward at {st'} {m'} {k} {s} g l b =
      let q : allowance - n ≡ allowance - (n + k) + k = omega (arith, at.steps) in
      record {
        left = at.left ∙ ap (λ (x : ℕ). go_from through x st m n t) q ∙ goes_run through g (allowance - (n + k)) n t;
        steps = omega (arith, at.steps);
        states = omega (arith, at.states);
      }

  -- by the invariant of a run: plain instructions take no more steps than are spare
  pub led :
      {spare : ℕ} → Reached through allowance st₀ m₀ st m n t × (spare ≤ allowance - n) → {st' : State} {m' : List ℕ} {k s : ℕ}
      → Goes st m k s st' m' → k ≤ spare → s ≤ 65535 * k → Reached through allowance st₀ m₀ st' m' (n + k) (t + s)
  led i g k b = onward i.0 g (omega (arith, k, i.1)) b

  -- a step of the machine whose event is no entry
  pub goes_unentered :
      (at : Reached through allowance st₀ m₀ st m n t) {s : Stepped} {m' : List ℕ} {k : ℕ} → st.condition ≡ Running → (n ≡ allowance → ⊥)
      → (s ≡ answer (step_of st m)) × (m' ≡ (step_of st m).memory) → k ≡ states_of s.event → ((number pc flag : ℕ) → s.event ≡ event.Entered number pc flag → ⊥)
      → k ≤ 65535 → Reached through allowance st₀ m₀ s.state m' (n + 1) (t + k)
  goes_unentered at {s} {m'} {k} running more step cost none =
      goes_on at running more step cost
      (unentered through s.event none s.state m' (n + 1) (t + k) (go_from through (allowance - (n + 1)) s.state m' (n + 1) (t + k)))
