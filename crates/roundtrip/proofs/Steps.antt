-- A step from a good state leads to a good one: accesses and OUT keep the TLB good, and a fault and an interrupt the cause and the lines.
-- Assumes nothing.
use mathlib.Core.List.{List}
use Rattle.std.specs.Prelude.{◌≡◌, ℕ, ◌<◌, eqb, ltb, get_or}
use Rattle.std.proofs.Common.{◌∙◌, arith}
use Rattle.std.proofs.lemmas.Nat.{or_lt}
use Rattle.std.proofs.Math.ListN.{length, length-set}
use Rattle.fault.specs.declared.FaultRecord.{FaultRecord}
use Rattle.layout.specs.TimerLaws.{control_good_lem, count_good_lem}
use Rattle.machine.specs.Enter.{Outcome, enter_of}
use Rattle.machine.specs.Execute.{after_operation, body_of}
use Rattle.machine.specs.Fault.{noted}
use Rattle.machine.specs.Kept.{plan_keeps, with_mark}
use Rattle.machine.specs.Plan.{plan_of}
use Rattle.machine.specs.Ports.{cause_port, entry_at, entry_written, is_page_port, is_tlb_port, record_after_in, tlb_after}
use Rattle.machine.specs.Register.{regs_after}
use Rattle.machine.specs.State.{with_pc}
use Rattle.machine.specs.Step.{commit, step_of}
use Rattle.machine.specs.StepLaws.{body_by, enter_by}
use Rattle.plan.specs.declared.Operation.{Operation}
use Rattle.plan.specs.declared.Plan.{Plan}
use Rattle.plan.specs.declared.Plan.TheVariants.{Interrupt, Perform, Trap, Violation}
use Rattle.machine.specs.declared.State.{State}
use Rattle.mmu.specs.Marks.{like_zeros, marked_like}
use Rattle.mmu.specs.declared.Fault.{Fault}
use Rattle.mmu.specs.declared.Fault.TheVariants.{Missing, Odd, Refused}
use Rattle.mmu.specs.declared.Right.{Right}
use Rattle.timer.specs.Laws.{in_by, out_by}
use Rattle.timer.specs.Port.{after_in_at, after_out_at, control_stored}
use Rattle.timer.specs.declared.Timer.{Timer}
use Rattle.word.specs.Cases.{either}
use Rattle.word.specs.Word.{wrap}
use Rattle.roundtrip.specs.Each.{each_set}
use Rattle.roundtrip.specs.Statement.{Each, GoodState, Zeros}
use Rattle.roundtrip.specs.Timers.{GoodTimer}

-- ---- the plan

mark_good : (st : State) (k : ℕ) (right : Right) → GoodState st → GoodState (with_mark st k right)
mark_good st k right g =
    record {
      thirteen = g.thirteen;
      lines = g.lines;
      causes = g.causes;
      eight = length-set st.tlb k _ ∙ g.eight;
      zeros = each_set Zeros st.tlb k _ g.zeros (like_zeros (marked_like right _) ∙ g.zeros k);
      timers = g.timers;
    }

pub plan_good : (st : State) (m : List ℕ) → GoodState st → GoodState (plan_of st m).state
plan_good = plan_keeps GoodState mark_good

-- ---- the instruction

regs_long : (regs : List ℕ) (n v : ℕ) → length regs ≡ 13 → length (regs_after regs n v) ≡ 13
unfolding regs_after
regs_long regs n v h = either (λ (l : List ℕ). length l ≡ 13) (ltb n 13) (λ _. length-set regs n v ∙ h) (λ _. h)

cause_small : (fault : FaultRecord) (port : ℕ) → fault.cause < 4 → (record_after_in fault port).cause < 4
unfolding record_after_in
cause_small fault port h = either (λ (r : FaultRecord). r.cause < 4) (eqb port cause_port) (λ _. omega arith) (λ _. h)

-- "bits 14, 13 stored as 0"
written_zeros : (port e v : ℕ) → Zeros e → Zeros (entry_written port e v)
written_zeros port e v z = either Zeros (is_page_port port) (λ _. omega arith) (λ _. omega arith)

module _ (tlb : List ℕ) (port v : ℕ) where
  out_long : length tlb ≡ 8 → length (tlb_after tlb port v) ≡ 8
  unfolding tlb_after
  out_long h = either (λ (l : List ℕ). length l ≡ 8) (is_tlb_port port) (λ _. length-set tlb (entry_at port) _ ∙ h) (λ _. h)

  out_zeros : Each Zeros tlb → Each Zeros (tlb_after tlb port v)
  unfolding tlb_after
  out_zeros h =
      either (Each Zeros) (is_tlb_port port)
      (λ _. each_set Zeros tlb (entry_at port) _ h (written_zeros port (get_or tlb (entry_at port) 0) v (h (entry_at port)))) (λ _. h)

-- IN and OUT keep a timer good: a period that is set zeroes the count
module _ (first : ℕ) (t : Timer) (port : ℕ) (g : GoodTimer t) where
  in_good : GoodTimer (after_in_at first t port)
  in_good = in_by GoodTimer first t port g (record { count = g.count; control = g.control })

  out_good : (v : ℕ) → GoodTimer (after_out_at first t port v)
  out_good v =
      out_by GoodTimer first t port g v (record { count = count_good_lem 0 (wrap v) (omega arith); control = g.control })
      (record { count = g.count; control = control_good_lem (control_stored v) (omega arith) })

body_good : (st : State) (op : Operation) → GoodState st → GoodState (body_of st op)
body_good st op g = body_by GoodState st op (search (g, g.zeros, regs_long, cause_small, out_long, out_zeros, in_good, out_good) fits 20000)

-- ---- the step

enter_good :
    (st : State) (pending number saved : ℕ) (m : List ℕ) → GoodState st → pending < 1024
    → GoodState (enter_of st pending number saved m).state
enter_good st pending number saved m g h =
    enter_by (λ (o : Outcome). GoodState o.state) st pending number saved m (search (g, g.zeros)) (search (g, g.zeros))

noted_good : (why : Fault) (a : ℕ) (st : State) → GoodState st → GoodState (noted why a st)
noted_good Odd a st g = let h = or_lt 2 st.fault.cause 2 g.causes (omega arith) in search (g, g.zeros)
noted_good Missing a st g = search (g, g.zeros)
noted_good Refused a st g = let h = or_lt 2 st.fault.cause 1 g.causes (omega arith) in search (g, g.zeros)

commit_good : (x : Plan) (st : State) (m : List ℕ) → GoodState st → GoodState (commit x st m).state
unfolding commit after_operation
commit_good (Interrupt line) st m g = enter_good st _ _ _ m g (omega (arith, g.lines))
commit_good (Violation v) st m g = enter_good (noted v.fault v.address st) _ _ _ m (noted_good v.fault v.address st g) g.lines
commit_good (Trap why saved) st m g = enter_good st _ _ _ m g g.lines
commit_good (Perform op) st m g = body_good (with_pc st op.pc) op (search (g, g.zeros))

pub step_good : (st : State) (m : List ℕ) → GoodState st → GoodState (step_of st m).state
unfolding step_of
step_good st m g = commit_good (plan_of st m).plan (plan_of st m).state m (plan_good st m g)
