-- A look between two runs; and a run of n + k steps, which is a run of n and, where that is spent, a run of k.
-- Assumes nothing.
use Rattle.std.specs.Prelude.{List, ◌≡◌, refl, ℕ, suc, zero, ◌+◌}
use Rattle.std.proofs.Common.{◌∙◌, suc-add, zero-add}
use Rattle.counting.specs.Statement.{Ended}
use Rattle.counting.proofs.Theorem.{counted}
use Rattle.machine.specs.Answers.{states_of}
use Rattle.machine.specs.Enter.{Outcome}
use Rattle.machine.specs.Run.{Ran, ran, run_from, run_of, unless_entered, unless_stopped}
use Rattle.machine.specs.Step.{step_of}
use Rattle.machine.specs.Through.{run_later}
use Rattle.machine.specs.declared.Condition.{Condition}
use Rattle.machine.specs.declared.Condition.TheVariants as condition
use Rattle.machine.specs.declared.Ending.{Ending}
use Rattle.machine.specs.declared.Ending.TheVariants as ending
use Rattle.machine.specs.declared.Event.{Event}
use Rattle.machine.specs.declared.Event.TheVariants as event
use Rattle.machine.specs.declared.State.{State}
use Rattle.readers.specs.Statement.{LookBetween, LookWithin}

-- ---- a look

pub look_between : LookBetween
look_between n k st m = refl

-- ---- a run in two parts

-- from a run's end on, with k steps more, where that end is that its allowance is spent
abbrev onward : Ending → ℕ → Ran → Ran
onward ending.Spent k r = run_from k r.state r.memory r.steps r.states
onward (ending.Entered number pc flag) k r = r
onward ending.Halted k r = r
onward ending.Lost k r = r

abbrev Onward : ℕ → Ran → Ran → Type 0
Onward k x r = x ≡ onward r.ending k r

stopped_onward :
    (c : Condition) (st : State) (m : List ℕ) (i t k : ℕ) (x r : Ran) → Onward k x r
    → Onward k (unless_stopped c st m i t x) (unless_stopped c st m i t r)
stopped_onward condition.Running st m i t k x r e = e
stopped_onward condition.Halted st m i t k x r e = refl
stopped_onward condition.Lost st m i t k x r e = refl

entered_onward :
    (v : Event) (st : State) (m : List ℕ) (i t k : ℕ) (x r : Ran) → Onward k x r
    → Onward k (unless_entered v st m i t x) (unless_entered v st m i t r)
entered_onward (event.Executed cost) st m i t k x r e = e
entered_onward (event.Entered number pc flag) st m i t k x r e = refl
entered_onward event.Halted st m i t k x r e = e
entered_onward event.Lost st m i t k x r e = e

-- the condition is tested first
tested :
    (c : Condition) (st : State) (m : List ℕ) (i t : ℕ) (x : Ran) → let r : Ran = unless_stopped c st m i t x in
    r ≡ unless_stopped c st m i t r
tested condition.Running st m i t x = refl
tested condition.Halted st m i t x = refl
tested condition.Lost st m i t x = refl

tested_run :
    (k : ℕ) (st : State) (m : List ℕ) (i t : ℕ) → let r : Ran = run_from k st m i t in
    r ≡ unless_stopped st.condition st m i t r
unfolding run_from
tested_run zero st m i t = tested st.condition st m i t _
tested_run (suc k) st m i t = tested st.condition st m i t _

parts : (n k : ℕ) (st : State) (m : List ℕ) (i t : ℕ) → Onward k (run_from (n + k) st m i t) (run_from n st m i t)
unfolding run_from
parts zero k st m i t =
    rw (zero-add k) (tested_run k st m i t ∙ stopped_onward st.condition st m i t k _ (ran st m i t ending.Spent) refl)
parts (suc n) k st m i t =
    let o : Outcome = step_of st m in
    let t' : ℕ = t + states_of o.event in
    rw (suc-add n k)
    (stopped_onward st.condition st m i t k _ _
    (entered_onward o.event o.state o.memory (i + 1) t' k _ _ (parts n k o.state o.memory (i + 1) t')))

-- a run that is spent did all its steps
all_steps : (n : ℕ) (st : State) (m : List ℕ) → (run_of n st m).ending ≡ ending.Spent → (run_of n st m).steps ≡ n
all_steps n st m e = by (run_of n st m).ending e (counted n st m).ended
  where
    by : (x : Ending) → x ≡ ending.Spent → Ended n st m (run_of n st m).steps x → (run_of n st m).steps ≡ n
    by x d h = (rw d at h).all

pub look_within : LookWithin
unfolding run_of
look_within n k st m e =
    let r : Ran = run_of n st m in
    parts n k st m 0 0 ∙ rw e (rw (all_steps n st m e) (run_later k r.state r.memory n r.states))
