-- What the last step of a run stores in the fault record: a step does what its plan says, and a run ends by what its last step did.
-- Assumes nothing.
use Rattle.std.specs.Prelude.{false, List, ◌≡◌, eqb}
use Rattle.std.proofs.Common.{true≢false, sym, ◌∙◌, arith}
use Rattle.std.proofs.Math.Path.{ap, refl}
use Prim.Native.Nat.{ℕ, suc, zero, ◌%◌}
use borrow.Author.Tests.{eqb-false, eqb-true}
use Rattle.counting.specs.Statement.{Ended, condition_after, entry, event_at}
use Rattle.counting.proofs.Theorem.{counted}
use Rattle.decode.specs.Code.{HALT, IN}
use Rattle.fault.specs.declared.FaultRecord.{FaultRecord}
use Rattle.machine.specs.Answers.{condition_number}
use Rattle.machine.specs.Enter.{Outcome, enter_of}
use Rattle.machine.specs.Execute.{after_operation, body_of, event_of}
use Rattle.machine.specs.Fault.{noted}
use Rattle.machine.specs.Kept.{plan_keeps}
use Rattle.machine.specs.Plan.{plan_of}
use Rattle.machine.specs.Ports.{record_after_in}
use Rattle.machine.specs.Run.{Ran, iterate, run_of, stopped_ending}
use Rattle.machine.specs.State.{with_pc}
use Rattle.machine.specs.Step.{commit, step_of}
use Rattle.machine.specs.StepLaws.{body_by}
use Rattle.machine.specs.declared.Condition.{Condition}
use Rattle.machine.specs.declared.Condition.TheVariants as condition
use Rattle.machine.specs.declared.Ending.{Ending}
use Rattle.machine.specs.declared.Ending.TheVariants as ending
use Rattle.machine.specs.declared.Event.{Event}
use Rattle.machine.specs.declared.Event.TheVariants as event
use Rattle.machine.specs.declared.Planned.{Planned}
use Rattle.machine.specs.declared.State.{State}
use Rattle.plan.specs.declared.Operation.{Operation}
use Rattle.plan.specs.declared.Plan.{Plan}
use Rattle.plan.specs.declared.Plan.TheVariants.{Interrupt, Perform, Trap, Violation}
use Rattle.word.specs.Cases.{either}
use Rattle.readers.proofs.Consuming.{fault_kept}
use Rattle.readers.specs.Stopped.{EntersWith, LastPlan, RunStopped, StepStores, Stopped, Stores, record_by}

-- ---- what a step did

-- the condition after it, c being that of before
abbrev condition_by : Event → Condition → Condition
condition_by (event.Executed cost) c = c
condition_by (event.Entered number pc flag) c = c
condition_by event.Halted c = condition.Halted
condition_by event.Lost c = condition.Lost

-- the ending of a run whose last step it was
abbrev pub ending_by : Event → Ending
ending_by (event.Executed cost) = ending.Spent
ending_by (event.Entered number pc flag) = ending.Entered number pc flag
ending_by event.Halted = ending.Halted
ending_by event.Lost = ending.Lost

-- ---- an instruction

module _ (st : State) (op : Operation) where
  in_fault : op.code ≡ IN → (body_of st op).fault ≡ record_after_in st.fault op.port
  unfolding body_of
  in_fault e = rw e

  body_fault : (body_of st op).fault ≡ record_by (Perform op) st.fault
  body_fault =
      either (λ (r : FaultRecord). (body_of st op).fault ≡ r) (eqb op.code IN) (λ e. in_fault (eqb-true _ _ e))
      (λ e.
      let other : (f : FaultRecord) → op.code ≡ IN → f ≡ st.fault = λ f h. absurd (eqb-false _ _ e h) in
      body_by (λ (s : State). s.fault ≡ st.fault) st op (search other))

  halt_condition : op.code ≡ HALT → (body_of st op).condition ≡ condition.Halted
  unfolding body_of
  halt_condition e = rw e

  body_condition : (body_of st op).condition ≡ condition_by (event_of op) st.condition
  unfolding event_of
  body_condition =
      either (λ (v : Event). (body_of st op).condition ≡ condition_by v st.condition) (eqb op.code HALT)
      (λ e. halt_condition (eqb-true _ _ e))
      (λ e.
      let other : (c : Condition) → op.code ≡ HALT → c ≡ st.condition = λ c h. absurd (eqb-false _ _ e h) in
      body_by (λ (s : State). s.condition ≡ st.condition) st op (search other))

  body_plan : LastPlan (ending_by (event_of op)) st.ssp (Perform op)
  unfolding event_of
  body_plan = either (λ (v : Event). LastPlan (ending_by v) st.ssp (Perform op)) (eqb op.code HALT) (λ e. e) (λ e. e)

-- ---- a step

-- of an outcome: what was to be done, with this SSP, and the condition and the record after it
record Does (x : Plan) (ssp : ℕ) (c : Condition) (f : FaultRecord) (o : Outcome) : Type 0 where
  plan : LastPlan (ending_by o.event) ssp x
  condition : o.state.condition ≡ condition_by o.event c
  stored : o.state.fault ≡ f

module _ (m : List ℕ) where
  enter_does :
      (x : Plan) (st : State) (pending number saved : ℕ) → EntersWith number x
      → Does x st.ssp st.condition st.fault (enter_of st pending number saved m)
  unfolding enter_of
  enter_does x st pending number saved due =
      either (Does x st.ssp st.condition st.fault) (eqb (st.ssp % 2) 1)
      (λ e. record { plan = record { odd = eqb-true _ _ e; number = number; due = due }; condition = refl; stored = refl })
      (λ _. record { plan = due; condition = refl; stored = refl })

  commit_does : (x : Plan) (st : State) → Does x st.ssp st.condition (record_by x st.fault) (commit x st m)
  unfolding commit after_operation
  commit_does (Interrupt line) st = enter_does (Interrupt line) st _ _ _ refl
  commit_does (Violation v) st = enter_does (Violation v) (noted v.fault v.address st) _ _ _ refl
  commit_does (Trap why saved) st = enter_does (Trap why saved) st _ _ _ refl
  commit_does (Perform op) st =
      let st' : State = with_pc st op.pc in
      record { plan = body_plan st' op; condition = body_condition st' op; stored = body_fault st' op }

step_does :
    (st : State) (m : List ℕ) → let x : Plan = (plan_of st m).plan in
    Does x st.ssp st.condition (record_by x st.fault) (step_of st m)
unfolding step_of
step_does st m =
    let p : Planned = plan_of st m in
    let ssp : p.state.ssp ≡ st.ssp = plan_keeps (λ (s : State). s.ssp ≡ st.ssp) (λ s k right h. h) st m refl in
    let c : p.state.condition ≡ st.condition = plan_keeps (λ (s : State). s.condition ≡ st.condition) (λ s k right h. h) st m refl in
    rw (ssp, c, fault_kept st m) at (commit_does m p.plan p.state)

pub step_stores : StepStores
step_stores st m = (step_does st m).stored

pub step_stops : (st : State) (m : List ℕ) → Stores (ending_by (step_of st m).event) st m (step_of st m).state.fault
step_stops st m = record { plan = (step_does st m).plan; stored = step_stores st m }

-- ---- the last step of a run

-- one step more
iterate_more :
    (k : ℕ) (st : State) (m : List ℕ)
    → (iterate (suc k) st m).state ≡ (step_of (iterate k st m).state (iterate k st m).memory).state
unfolding iterate
iterate_more zero st m = refl
iterate_more (suc k) st m = iterate_more k (step_of st m).state (step_of st m).memory

-- the ending by the condition after a step is that by what the step did, of a machine that ran before it
told :
    (v : Event) (c : Condition) → c ≡ condition_by v condition.Running → (c ≡ condition.Running → entry v ≡ false)
    → stopped_ending c ≡ ending_by v
told (event.Executed cost) c e calm = ap stopped_ending e
told (event.Entered number pc flag) c e calm = absurd (true≢false (calm e))
told event.Halted c e calm = ap stopped_ending e
told event.Lost c e calm = ap stopped_ending e

module _ (n : ℕ) (st : State) (m : List ℕ) where
  abbrev r : Ran
  r = run_of n st m

  module _ (last : ℕ) (count : r.steps ≡ suc last) where
    abbrev at : State
    at = (iterate last st m).state

    last_state : r.state ≡ (step_of at (iterate last st m).memory).state
    last_state = (counted n st m).stepped.state ∙ ap (λ (k : ℕ). (iterate k st m).state) count ∙ iterate_more last st m

    last_condition : condition_after (suc last) st m ≡ condition_by (event_at last st m) condition.Running
    last_condition =
        ap (λ (s : State). s.condition) (iterate_more last st m) ∙ (step_does at (iterate last st m).memory).condition
        ∙ ap (condition_by (event_at last st m)) ((counted n st m).stepped.running last (omega arith))

    by_event_lem : (x : Ending) → Ended n st m (suc last) x → x ≡ ending_by (event_at last st m)
    by_event_lem ending.Spent h =
        told (event_at last st m) condition.Running (sym h.running ∙ last_condition) (λ _. h.not_entered last refl)
    by_event_lem (ending.Entered number pc flag) h =
        let same : last ≡ h.last = omega (arith, h.counted) in ap ending_by (sym (rw (← same) at h.event))
    by_event_lem ending.Halted h =
        told (event_at last st m) condition.Halted (sym h ∙ last_condition)
        (λ e. let z : ◌≡◌ {A = ℕ} 1 0 = ap condition_number e in absurd (omega arith))
    by_event_lem ending.Lost h =
        told (event_at last st m) condition.Lost (sym h ∙ last_condition)
        (λ e. let z : ◌≡◌ {A = ℕ} 2 0 = ap condition_number e in absurd (omega arith))

    ending_is : r.ending ≡ ending_by (event_at last st m)
    ending_is = by_event_lem r.ending (rw count at (counted n st m).ended)

  stopped : (k : ℕ) → r.steps ≡ k → Stopped k r.ending st m r.state.fault
  unfolding iterate
  stopped zero e = ap (λ (s : State). s.fault) (counted n st m).stepped.state ∙ rw e
  stopped (suc last) e = rw (ending_is last e, last_state last e) (step_stops (at last e) (iterate last st m).memory)

pub run_stopped : RunStopped
run_stopped n st m = stopped n st m (run_of n st m).steps refl
