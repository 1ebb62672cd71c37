-- A run in user mode without I/O privilege reaches no port, so it changes no timer.
-- Assumes nothing.
use Rattle.std.specs.Prelude.{false, true, List, ◌≡◌, refl, ℕ, suc, zero, ◌+◌, ◌<◌}
use Rattle.std.proofs.lemmas.Bool.{false≢true}
use Rattle.std.proofs.Common.{ap, sym, ◌∙◌, arith, ne_eqb}
use Rattle.counting.specs.Statement.{entry, event_at}
use Rattle.counting.proofs.Theorem.{counted}
use Rattle.decode.specs.Code.{IN, OUT}
use Rattle.decode.specs.Laws.{plain}
use Rattle.machine.specs.Enter.{Outcome, enter_of}
use Rattle.machine.specs.Execute.{after_operation}
use Rattle.machine.specs.Fault.{noted}
use Rattle.machine.specs.Kept.{fetch_keeps, plan_keeps}
use Rattle.machine.specs.Plain.{plain_here}
use Rattle.machine.specs.Plan.{plan_of}
use Rattle.machine.specs.PlanLaws.{Ends, operand_by, plan_by}
use Rattle.machine.specs.Run.{iterate, run_of}
use Rattle.machine.specs.State.{with_pc}
use Rattle.machine.specs.Step.{commit, step_of}
use Rattle.machine.specs.StepLaws.{body_by, enter_by}
use Rattle.machine.specs.declared.Planned.{Planned}
use Rattle.machine.specs.declared.State.{State}
use Rattle.plan.specs.declared.Operation.{Operation}
use Rattle.plan.specs.declared.Plan.{Plan}
use Rattle.plan.specs.declared.Plan.TheVariants.{Interrupt, Perform, Trap, Violation}
use Rattle.timer.specs.declared.Timers.{Timers}
use Rattle.times.specs.Statement.{UserTimers, timers_by}
use Rattle.times.proofs.Steps.{step_timers}

-- "in user mode without I/O privilege"
record User (st : State) : Type 0 where
  user : st.flags.p ≡ false
  no_ports : st.flags.i ≡ false

-- ---- the plan

-- an instruction that is carried out needs no privilege
abbrev Plain : Plan → Type 0
Plain (Interrupt line) = Unit {0}
Plain (Violation v) = Unit {0}
Plain (Trap why saved) = Unit {0}
Plain (Perform op) = plain op.code ≡ true

ends_plain : (code : ℕ) → plain code ≡ true → Ends Plain code
ends_plain code c = record { performs = λ op e. rw e c; fails = λ why a. tt; traps = λ number saved l h. tt }

plan_plain : (st : State) (m : List ℕ) → User st → Plain (plan_of st m).plan
plan_plain st m u =
    plan_by m User (λ (x : Planned). Plain x.plan)
    (record {
      fetch = fetch_keeps User (λ s k right h. record { user = h.user; no_ports = h.no_ports });
      interrupt = λ s h. tt;
      first = λ s h why. tt;
      second = λ s h why. tt;
      undefined = λ s h. tt;
      denied = λ s h. tt;
      short = λ s h w shape d e. operand_by Plain s m _ _ (ends_plain _ (plain_here s h.user h.no_ports w shape d e));
      long = λ s h w shape d e at. operand_by Plain s m _ _ (ends_plain _ (plain_here s h.user h.no_ports w shape d e));
    })
    st u

-- ---- the step

by_plain : (x : Plan) (ts : Timers) → Plain x → timers_by x ts ≡ ts
by_plain (Interrupt line) ts c = refl
by_plain (Violation v) ts c = refl
by_plain (Trap why saved) ts c = refl
by_plain (Perform op) ts c =
    rw (ne_eqb op.code IN (λ e. false≢true (rw e at c)), ne_eqb op.code OUT (λ e. false≢true (rw e at c)))

step_kept : (st : State) (m : List ℕ) → User st → (step_of st m).state.timers ≡ st.timers
step_kept st m u = step_timers st m ∙ by_plain (plan_of st m).plan st.timers (plan_plain st m u)

-- a step that is no entry stays in user mode; under a name that does not unfold
record Stays (o : Outcome) : Type 0 where
  stays : entry o.event ≡ false → User o.state

module _ (m : List ℕ) where
  enter_stays : (st : State) (pending number saved : ℕ) → User st → Stays (enter_of st pending number saved m)
  enter_stays st pending number saved u =
      enter_by Stays st pending number saved m
      (record { stays = λ e. record { user = u.user; no_ports = u.no_ports } }) (record { stays = λ e. absurd (false≢true (sym e)) })

  operation_stays : (st : State) (op : Operation) → User st → plain op.code ≡ true → User (after_operation st op)
  unfolding after_operation
  operation_stays st op u c =
      body_by User (with_pc st op.pc) op
      (record {
        load = search u;
        compare = search u;
        compute = search u;
        push = search u;
        pop = search u;
        return = search u;
        input = λ e. absurd (false≢true (rw e at c));
        output = λ e. absurd (false≢true (rw e at c));
        resume = λ e. absurd (false≢true (rw e at c));
        halt = λ e. absurd (false≢true (rw e at c));
        nothing = search u;
      })

  commit_stays : (x : Plan) (st : State) → Plain x → User st → Stays (commit x st m)
  unfolding commit
  commit_stays (Interrupt line) st c u = enter_stays st _ _ _ u
  commit_stays (Violation v) st c u = enter_stays (noted v.fault v.address st) _ _ _ (search u)
  commit_stays (Trap why saved) st c u = enter_stays st _ _ _ u
  commit_stays (Perform op) st c u = record { stays = λ e. operation_stays st op u c }

step_stays : (st : State) (m : List ℕ) → User st → entry (step_of st m).event ≡ false → User (step_of st m).state
unfolding step_of
step_stays st m u =
    let p : Planned = plan_of st m in
    (commit_stays m p.plan p.state (plan_plain st m u)
    (plan_keeps User (λ s k right h. record { user = h.user; no_ports = h.no_ports }) st m u)).stays

-- ---- the run

-- steps of which none but the last is an entry
iterate_kept :
    (n : ℕ) (st : State) (m : List ℕ) → User st → ((k : ℕ) → k + 1 < n → entry (event_at k st m) ≡ false)
    → (iterate n st m).state.timers ≡ st.timers
unfolding iterate
iterate_kept zero st m u calm = refl
iterate_kept (suc zero) st m u calm = step_kept st m u
iterate_kept (suc (suc n)) st m u calm =
    let o : Outcome = step_of st m in
    iterate_kept (suc n) o.state o.memory (step_stays st m u (calm 0 (omega arith))) (λ k l. calm (suc k) (omega arith))
    ∙ step_kept st m u

pub user_timers : UserTimers
user_timers n st m p i =
    ap (λ (s : State). s.timers) (counted n st m).stepped.state
    ∙ iterate_kept (run_of n st m).steps st m (record { user = p; no_ports = i }) (counted n st m).not_entered
