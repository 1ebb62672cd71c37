-- A turn of a run, of one that goes on through kernel entries or of one that ends there: what holds at its start, where the run ends, and what holds after
-- a step.
-- Assumes nothing.
use mathlib.Core.Bool.{Bool, not-not, false, not, true}
use mathlib.Core.List.{List}
use mathlib.Core.Path.{ap, refl, sym, ◌∙◌, ◌≡◌}
use Prim.Native.Nat.{suc, zero, ℕ, ◌*◌, ◌+◌, ◌-◌, ◌≤◌}
use native.Mathlib.Nat.{sub-zero}
use native.Mathlib.Omega.{arith}
use Rattle.machine.specs.Answers.{states_of}
use Rattle.machine.specs.Enter.{Outcome}
use Rattle.machine.specs.Run.{Ran, finished, go_from, go_of, ran, run_from, run_of, stopped_ending, through_from, through_of, unless_entered}
use Rattle.machine.specs.Step.{answer, step_of}
use Rattle.machine.specs.declared.Condition.{Condition}
use Rattle.machine.specs.declared.Condition.TheVariants as condition
use Rattle.machine.specs.declared.Ending.{Ending}
use Rattle.machine.specs.declared.Ending.TheVariants as ending
use Rattle.machine.specs.declared.Event.{Event}
use Rattle.machine.specs.declared.Event.TheVariants as event
use Rattle.machine.specs.declared.Finished.{Finished}
use Rattle.machine.specs.declared.State.{State}
use Rattle.machine.specs.declared.Stepped.{Stepped}

-- The invariant: `n` steps of the run from `st₀` and `m₀`, in `t` states, have led to `st` and `m`.
pub record Reached (through : Bool) (allowance : ℕ) (st₀ : State) (m₀ : List ℕ) (st : State) (m : List ℕ) (n t : ℕ) : Type 0 where
  -- what is left of the run
  pub left : go_of through allowance st₀ m₀ ≡ go_from through (allowance - n) st m n t
  pub steps : n ≤ allowance
  pub states : t ≤ 65535 * n

pub start : (through : Bool) (allowance : ℕ) (st : State) (m : List ℕ) → Reached through allowance st m st m 0 0
unfolding run_of through_of
start true allowance st m = record { left = rw (sub-zero allowance); steps = omega arith; states = omega arith }
start false allowance st m = record { left = rw (sub-zero allowance); steps = omega arith; states = omega arith }

-- the answer and the memory of a run that has ended
pub ended :
    {r : Ran} {f : Finished} {st : State} {m : List ℕ} {n t : ℕ} {x : Ending} → r ≡ ran st m n t x
    → f ≡ record { state = st; steps = n; states = t; ending = x } → (f ≡ finished r) × (m ≡ r.memory)
ended e p = rw e (p, refl)

pub ended_at :
    {r : Ran} {f : Finished} {st : State} {m : List ℕ} {n t : ℕ} {x y : Ending} → r ≡ ran st m n t x → y ≡ x
    → f ≡ record { state = st; steps = n; states = t; ending = y } → (f ≡ finished r) × (m ≡ r.memory)
ended_at e q p = ended e (p ∙ rw q)

-- ---- the run from here, by the condition

module _ (st : State) (m : List ℕ) (n t : ℕ) where
  halted : (through : Bool) (left : ℕ) → st.condition ≡ condition.Halted → go_from through left st m n t ≡ ran st m n t ending.Halted
  unfolding run_from through_from
  halted true zero e = rw e
  halted true (suc left) e = rw e
  halted false zero e = rw e
  halted false (suc left) e = rw e

  lost : (through : Bool) (left : ℕ) → st.condition ≡ condition.Lost → go_from through left st m n t ≡ ran st m n t ending.Lost
  unfolding run_from through_from
  lost true zero e = rw e
  lost true (suc left) e = rw e
  lost false zero e = rw e
  lost false (suc left) e = rw e

  spent : (through : Bool) (left : ℕ) → left ≡ 0 → st.condition ≡ condition.Running → go_from through left st m n t ≡ ran st m n t ending.Spent
  unfolding run_from through_from
  spent true left z e = rw (z, e)
  spent false left z e = rw (z, e)

  -- of a machine that does not run, or has no step left
  stopped : (through : Bool) (left : ℕ) → (c : Condition) → st.condition ≡ c → (c ≡ condition.Running → left ≡ 0)
      → go_from through left st m n t ≡ ran st m n t (stopped_ending st.condition)
  stopped through left condition.Running e z = spent through left (z refl) e ∙ rw e
  stopped through left condition.Halted e z = halted through left e ∙ rw e
  stopped through left condition.Lost e z = lost through left e ∙ rw e

-- what a step's event leaves of the run
abbrev pub after_event : Bool → Event → State → List ℕ → ℕ → ℕ → Ran → Ran
after_event true x st m n t rest = rest
after_event false x st m n t rest = unless_entered x st m n t rest

-- an event that is no entry
pub unentered :
    (x : Event) (st : State) (m : List ℕ) (n t : ℕ) (rest : Ran) → ((number pc flag : ℕ) → x ≡ event.Entered number pc flag → ⊥)
    → unless_entered x st m n t rest ≡ rest
unentered (event.Executed cost) st m n t rest none = refl
unentered (event.Entered number pc flag) st m n t rest none = absurd (none number pc flag refl)
unentered event.Halted st m n t rest none = refl
unentered event.Lost st m n t rest none = refl

stepped :
    (through : Bool) (left : ℕ) (st : State) (m : List ℕ) (n t : ℕ) → st.condition ≡ condition.Running
    → let o : Outcome = step_of st m in
    let t' : ℕ = t + states_of o.event in
    go_from through (suc left) st m n t
    ≡ after_event through o.event o.state o.memory (n + 1) t' (go_from through left o.state o.memory (n + 1) t')
unfolding run_from through_from
stepped true left st m n t e = rw e
stepped false left st m n t e = rw e

unnegated : (x : Bool) {y : Bool} → not x ≡ y → x ≡ not y
unnegated x e = sym (not-not x) ∙ ap not e

-- ---- the outcomes of a turn

module _ {through : Bool} {allowance : ℕ} {st₀ : State} {m₀ : List ℕ} {st : State} {m : List ℕ} {n t : ℕ}
    (at : Reached through allowance st₀ m₀ st m n t) where
  pub at_halt : st.condition ≡ condition.Halted → go_of through allowance st₀ m₀ ≡ ran st m n t ending.Halted
  at_halt e = at.left ∙ halted st m n t through (allowance - n) e

  pub at_loss : st.condition ≡ condition.Lost → go_of through allowance st₀ m₀ ≡ ran st m n t ending.Lost
  at_loss e = at.left ∙ lost st m n t through (allowance - n) e

  pub at_end : st.condition ≡ condition.Running → n ≡ allowance → go_of through allowance st₀ m₀ ≡ ran st m n t ending.Spent
  at_end e z = at.left ∙ spent st m n t through (allowance - n) (omega arith) e

  pub at_stop : (st.condition ≡ condition.Running → n ≡ allowance) → go_of through allowance st₀ m₀ ≡ ran st m n t (stopped_ending st.condition)
  at_stop z = at.left ∙ stopped st m n t through (allowance - n) st.condition refl (λ e. let l : n ≡ allowance = z e in omega arith)

  -- a step that answers `s`, with the memory `m'` and `k` states
  module _
      {s : Stepped} {m' : List ℕ} {k : ℕ} (running : st.condition ≡ condition.Running) (more : n ≡ allowance → ⊥)
      (step : (s ≡ answer (step_of st m)) × (m' ≡ (step_of st m).memory)) (cost : k ≡ states_of s.event) where
    -- the run after it, but for an entry
    abbrev rest : Ran
    rest = go_from through (allowance - (n + 1)) s.state m' (n + 1) (t + k)

    after : go_of through allowance st₀ m₀ ≡ after_event through s.event s.state m' (n + 1) (t + k) rest
    after =
        let one : allowance - n ≡ suc (allowance - (n + 1)) = omega arith in
        let from : go_from through (allowance - n) st m n t ≡ go_from through (suc (allowance - (n + 1))) st m n t = rw one in
        rw (cost, step.0, step.1) (at.left ∙ from ∙ stepped through (allowance - (n + 1)) st m n t running)

    -- an entry ends the run
    pub at_entry :
        {number pc flag : ℕ} → not through ≡ true → s.event ≡ event.Entered number pc flag
        → go_of through allowance st₀ m₀ ≡ ran s.state m' (n + 1) (t + k) (ending.Entered number pc flag)
    at_entry off e = after ∙ rw (unnegated through off, e)

    -- the run goes on
    pub goes_on :
        after_event through s.event s.state m' (n + 1) (t + k) rest ≡ rest → k ≤ 65535
        → Reached through allowance st₀ m₀ s.state m' (n + 1) (t + k)
    goes_on e b = record { left = after ∙ e; steps = omega arith; states = omega arith }

    pub goes_through :
        not through ≡ false → k ≤ 65535 → Reached through allowance st₀ m₀ s.state m' (n + 1) (t + k)
    goes_through on = goes_on (rw (unnegated through on))
