-- What a run counts. Document 01, "Faults in order": "A run does at most its allowance of steps, 0 to 65,535, and reports how many it did.
-- Before the first step and after each it ends if one of these holds, the earlier named winning: halted or lost (also found so, with 0
-- steps), kernel entered by the step just done, allowance spent." "What each place should look like": "Run's counted steps equal the
-- number of definition steps to the named ending."
-- Assumes nothing.
use Rattle.std.specs.Prelude.{Bool, false, true, List, ◌≡◌, ℕ, suc, zero, ◌+◌, ◌≤◌, ◌<◌}
use Rattle.machine.specs.Answers.{states_of}
use Rattle.machine.specs.Run.{Ran, iterate, run_of, stopped_ending, through_of}
use Rattle.machine.specs.Step.{step_of}
use Rattle.machine.specs.declared.Condition.{Condition}
use Rattle.machine.specs.declared.Condition.TheVariants as condition
use Rattle.machine.specs.declared.Ending.{Ending}
use Rattle.machine.specs.declared.Ending.TheVariants as ending
use Rattle.machine.specs.declared.Event.{Event}
use Rattle.machine.specs.declared.Event.TheVariants as event
use Rattle.machine.specs.declared.State.{State}

-- ---- the steps, without a run

-- the condition after k steps
abbrev pub condition_after : ℕ → State → List ℕ → Condition
condition_after k st m = (iterate k st m).state.condition

-- what step number k did, the first being number 0
abbrev pub event_at : ℕ → State → List ℕ → Event
event_at k st m = (step_of (iterate k st m).state (iterate k st m).memory).event

-- the states of the first k steps
unfoldable pub states_sum : ℕ → State → List ℕ → ℕ
states_sum zero st m = 0
states_sum (suc k) st m = states_sum k st m + states_of (event_at k st m)

-- "kernel entered"
abbrev pub entry : Event → Bool
entry (event.Executed cost) = false
entry (event.Entered number pc flag) = true
entry event.Halted = false
entry event.Lost = false

-- "Before the first step and after each": each of the first n steps finds the machine running, and none of them but the last was an entry
abbrev pub Runs : ℕ → State → List ℕ → Type 0
Runs n st m = (k : ℕ) → k < n → condition_after k st m ≡ condition.Running

abbrev pub Calm : ℕ → State → List ℕ → Type 0
Calm n st m = (k : ℕ) → k + 1 < n → entry (event_at k st m) ≡ false

-- nor the last
abbrev pub CalmLast : ℕ → State → List ℕ → Type 0
CalmLast n st m = (k : ℕ) → n ≡ suc k → entry (event_at k st m) ≡ false

-- ---- the endings, after n steps

-- "kernel entered by the step just done": there was a last step, it did this, and the machine is neither halted nor lost
pub record ByEntry (st : State) (m : List ℕ) (n : ℕ) (e : Event) : Type 0 where
  pub last : ℕ
  pub counted : n ≡ suc last
  pub event : event_at last st m ≡ e
  pub running : condition_after n st m ≡ condition.Running

-- "allowance spent": none of the other endings holds
pub record BySpending (allowance : ℕ) (st : State) (m : List ℕ) (n : ℕ) : Type 0 where
  pub all : n ≡ allowance
  pub running : condition_after n st m ≡ condition.Running
  pub not_entered : CalmLast n st m

abbrev pub Ended : ℕ → State → List ℕ → ℕ → Ending → Type 0
Ended allowance st m n ending.Halted = condition_after n st m ≡ condition.Halted
Ended allowance st m n ending.Lost = condition_after n st m ≡ condition.Lost
Ended allowance st m n (ending.Entered number pc flag) = ByEntry st m n (event.Entered number pc flag)
Ended allowance st m n ending.Spent = BySpending allowance st m n

-- ---- a run

-- a run's steps are those of the definition
pub record Stepped (allowance : ℕ) (st : State) (m : List ℕ) (r : Ran) : Type 0 where
  -- "at most its allowance of steps"
  pub within : r.steps ≤ allowance
  -- "reports how many it did": it ends where that many steps lead, in their states
  pub state : r.state ≡ (iterate r.steps st m).state
  pub memory : r.memory ≡ (iterate r.steps st m).memory
  pub states : r.states ≡ states_sum r.steps st m
  -- where a step follows, the machine is running
  pub running : Runs r.steps st m

pub record Counted (allowance : ℕ) (st : State) (m : List ℕ) (r : Ran) : Type 0 where
  pub stepped : Stepped allowance st m r
  -- where a step follows, the step just done was no entry
  pub not_entered : Calm r.steps st m
  -- and after the last it ends by the ending that it names
  pub ended : Ended allowance st m r.steps r.ending

-- ---- a run that goes on through kernel entries. Document 02, 5/14: "a set number of steps, carrying on through kernel entries, until halted or
-- lost"

pub record CountedThrough (allowance : ℕ) (st : State) (m : List ℕ) (r : Ran) : Type 0 where
  pub stepped : Stepped allowance st m r
  -- it is halted or lost, as its ending says, or its allowance is spent
  pub ending : r.ending ≡ stopped_ending (condition_after r.steps st m)
  pub spent : condition_after r.steps st m ≡ condition.Running → r.steps ≡ allowance

-- ---- the theorems

-- `counted`: what `run_of` gives is counted
abbrev pub RunCounted : Type 0
RunCounted = (allowance : ℕ) (st : State) (m : List ℕ) → Counted allowance st m (run_of allowance st m)

-- `only`: and nothing else is
abbrev pub OnlyRun : Type 0
OnlyRun = (allowance : ℕ) (st : State) (m : List ℕ) (r r' : Ran) → Counted allowance st m r → Counted allowance st m r' → r ≡ r'

-- `through_counted`: what `through_of` gives is counted
abbrev pub ThroughCounted : Type 0
ThroughCounted = (allowance : ℕ) (st : State) (m : List ℕ) → CountedThrough allowance st m (through_of allowance st m)

-- `through_only`: and nothing else is
abbrev pub OnlyThrough : Type 0
OnlyThrough = (allowance : ℕ) (st : State) (m : List ℕ) (r r' : Ran) → CountedThrough allowance st m r → CountedThrough allowance st m r' → r ≡ r'
