-- No run raises a line: the only line that it may clear is the lowest, which was entered.
-- Assumes nothing.
use Rattle.std.specs.Prelude.{false, true, List, ◌⊎◌, ◌≡◌, refl, ℕ, suc, zero, ◌+◌, ◌<◌}
use Rattle.std.proofs.lemmas.Bool.{false≢true}
use Rattle.std.proofs.Math.Logic.{inl}
use Rattle.std.proofs.Common.{inr, ⊎_elim, ap, sym, ◌∙◌, arith}
use Rattle.counting.specs.Statement.{entry, event_at}
use Rattle.counting.proofs.Theorem.{counted}
use Rattle.machine.specs.Enter.{Outcome, enter_of}
use Rattle.machine.specs.Execute.{after_operation, body_of}
use Rattle.machine.specs.Fault.{noted}
use Rattle.machine.specs.Kept.{fetch_keeps, plan_keeps}
use Rattle.machine.specs.Plan.{plan_of}
use Rattle.machine.specs.PlanLaws.{Ends, operand_by, plan_by}
use Rattle.machine.specs.Run.{iterate, run_of}
use Rattle.machine.specs.State.{with_pc}
use Rattle.machine.specs.Step.{commit, step_of}
use Rattle.machine.specs.StepLaws.{body_by, enter_by}
use Rattle.machine.specs.declared.Planned.{Planned}
use Rattle.machine.specs.declared.State.{State}
use Rattle.plan.specs.declared.Operation.{Operation}
use Rattle.plan.specs.declared.Plan.{Plan}
use Rattle.plan.specs.declared.Plan.TheVariants.{Interrupt, Perform, Trap, Violation}
use Rattle.status.specs.Pending.{lowest_line, without}
use Rattle.times.specs.Statement.{RunLines}

module _ (lines : ℕ) where
  -- an interrupt is that of the lowest line
  abbrev Lowest : Plan → Type 0
  Lowest (Interrupt line) = line ≡ lowest_line lines
  Lowest (Violation v) = Unit {0}
  Lowest (Trap why saved) = Unit {0}
  Lowest (Perform op) = Unit {0}

  ends_lowest : (code : ℕ) → Ends Lowest code
  ends_lowest code = record { performs = λ op e. tt; fails = λ why a. tt; traps = λ number saved l h. tt }

  plan_lowest : (st : State) (m : List ℕ) → st.pending ≡ lines → Lowest (plan_of st m).plan
  plan_lowest st m e =
      plan_by m (λ (s : State). s.pending ≡ lines) (λ (x : Planned). Lowest x.plan)
      (record {
        fetch = λ s a h. fetch_keeps (λ (s : State). s.pending ≡ lines) (λ s k right h. h) s a h;
        interrupt = λ s h. ap lowest_line h;
        first = λ s h why. tt;
        second = λ s h why. tt;
        undefined = λ s h. tt;
        denied = λ s h. tt;
        short = λ s h w shape d e. operand_by Lowest s m _ _ (ends_lowest _);
        long = λ s h w shape d e at. operand_by Lowest s m _ _ (ends_lowest _);
      })
      st e

  -- the lines are as they were, or the kernel was entered and the lowest is gone; under a name that does not unfold
  record Taken (o : Outcome) : Type 0 where
    taken : (o.state.pending ≡ lines) ⊎ ((o.state.pending ≡ without lines (lowest_line lines)) × (entry o.event ≡ true))

  module _ (m : List ℕ) where
    -- an entry that leaves these lines
    enter_taken :
        (st : State) (pending number saved : ℕ) → st.pending ≡ lines
        → (pending ≡ lines) ⊎ (pending ≡ without lines (lowest_line lines)) → Taken (enter_of st pending number saved m)
    enter_taken st pending number saved e h =
        enter_by Taken st pending number saved m (record { taken = inl e })
        (record { taken = ⊎_elim (λ l. inl l) (λ l. inr (l, refl)) h })

    body_lines : (st : State) (op : Operation) → (body_of st op).pending ≡ st.pending
    body_lines st op = body_by (λ (s : State). s.pending ≡ st.pending) st op (search)

    commit_taken : (x : Plan) (st : State) → Lowest x → st.pending ≡ lines → Taken (commit x st m)
    unfolding commit after_operation
    commit_taken (Interrupt line) st l e = enter_taken st _ _ _ e (inr (rw (e, l)))
    commit_taken (Violation v) st l e = enter_taken (noted v.fault v.address st) _ _ _ e (inl e)
    commit_taken (Trap why saved) st l e = enter_taken st _ _ _ e (inl e)
    commit_taken (Perform op) st l e = record { taken = inl (body_lines (with_pc st op.pc) op ∙ e) }

step_taken : (st : State) (m : List ℕ) → Taken st.pending (step_of st m)
unfolding step_of
step_taken st m =
    let p : Planned = plan_of st m in
    commit_taken st.pending m p.plan p.state (plan_lowest st.pending st m refl)
    (plan_keeps (λ (s : State). s.pending ≡ st.pending) (λ s k right h. h) st m refl)

-- ---- the run

abbrev After : ℕ → ℕ → Type 0
After lines pending = (pending ≡ lines) ⊎ (pending ≡ without lines (lowest_line lines))

-- a step that is no entry keeps the lines
calm_lines : (st : State) (m : List ℕ) → entry (step_of st m).event ≡ false → (step_of st m).state.pending ≡ st.pending
calm_lines st m e = ⊎_elim (λ l. l) (λ l. absurd (false≢true (sym e ∙ l.1))) (step_taken st m).taken

iterate_lines :
    (n : ℕ) (st : State) (m : List ℕ) → ((k : ℕ) → k + 1 < n → entry (event_at k st m) ≡ false) → After st.pending (iterate n st m).state.pending
unfolding iterate
iterate_lines zero st m calm = inl refl
iterate_lines (suc zero) st m calm = ⊎_elim (λ l. inl l) (λ l. inr l.0) (step_taken st m).taken
iterate_lines (suc (suc n)) st m calm =
    let o : Outcome = step_of st m in
    let same : o.state.pending ≡ st.pending = calm_lines st m (calm 0 (omega arith)) in
    let later : After o.state.pending (iterate (suc n) o.state o.memory).state.pending =
    iterate_lines (suc n) o.state o.memory (λ k l. calm (suc k) (omega arith))
    in
    rw same at later

pub run_lines : RunLines
run_lines n st m = rw (counted n st m).stepped.state (iterate_lines (run_of n st m).steps st m (counted n st m).not_entered)
