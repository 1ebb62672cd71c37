-- What every step keeps: what marks keep of a state, its plan keeps; a memory's length; and the condition, where the step enters the kernel.
-- Assumes nothing.
use Rattle.std.specs.Prelude.{Bool, Option, None, Some, Result, Ok, Err, ◌≡◌, ℕ, eqb, get_or, set}
use mathlib.Core.List.{List}
use Rattle.std.proofs.Math.Path.{refl}
use Rattle.std.proofs.Common.{arith}
use Rattle.std.proofs.Math.ListN.{length, length-set}
use Rattle.decode.specs.Code.{HALT}
use Rattle.decode.specs.declared.Instruction.{Instruction}
use Rattle.mmu.specs.Access.{access_of}
use Rattle.mmu.specs.Entry.{marked}
use Rattle.mmu.specs.Laws.{access_keeps}
use Rattle.mmu.proofs.Laws.{access_cases}
use Rattle.memory.specs.Memory.{stored, write_at}
use Rattle.mmu.specs.declared.Accessed.{Accessed}
use Rattle.mmu.specs.declared.Fault.{Fault}
use Rattle.mmu.specs.declared.Right.{Right}
use Rattle.mmu.specs.declared.Right.TheVariants as right
use Rattle.memory.specs.declared.Store.{Store}
use Rattle.word.specs.Cases.{either}
use Rattle.word.specs.Word.{plus}
use Rattle.word.specs.declared.Width.{Width}
use Rattle.word.specs.declared.Width.TheVariants as width
use Rattle.machine.specs.Enter.{Outcome, enter_of}
use Rattle.status.specs.Saved.{pushed}
use Rattle.machine.specs.Execute.{event_of}
use Rattle.machine.specs.Fault.{noted}
use Rattle.machine.specs.Plan.{after, fetched, plan_of, plan_operand, translates}
use Rattle.machine.specs.PlanLaws.{plan_by}
use Rattle.machine.specs.State.{with_tlb}
use Rattle.machine.specs.Step.{commit, step_of}
use Rattle.machine.specs.StepLaws.{enter_by}
use Rattle.transfer.specs.Transfer.{read_second, transfer_of}
use Rattle.machine.specs.declared.Condition.{Condition}
use Rattle.machine.specs.declared.Event.{Event}
use Rattle.machine.specs.declared.Event.TheVariants as event
use Rattle.transfer.specs.declared.Need.{Need}
use Rattle.transfer.specs.declared.Need.TheVariants.{Read, ReadTwo, Value, Write}
use Rattle.plan.specs.declared.Operation.{Operation}
use Rattle.plan.specs.declared.Plan.{Plan}
use Rattle.plan.specs.declared.Plan.TheVariants.{Interrupt, Perform, Trap, Violation}
use Rattle.machine.specs.declared.Planned.{Planned}
use Rattle.machine.specs.declared.State.{State}

-- ---- marks

-- what the marks of an entry keep of a TLB, the data access of an instruction keeps
module _ (P : List ℕ → Type 0) (mark : (t : List ℕ) (k : ℕ) (right : Right) → P t → P (set t k (marked right (get_or t k 0)))) where
  second_keeps : (x : Result ℕ Fault) (on : Bool) (tlb m : List ℕ) (a : ℕ) → P tlb → P (read_second x on tlb m a).tlb
  second_keeps (Ok at) on tlb m a h = access_keeps P mark (access_cases width.Word on tlb right.Read (plus a 2)) h
  second_keeps (Err why) on tlb m a h = h

  pub transfer_keeps : (need : Need) (on : Bool) (tlb m : List ℕ) (value : ℕ) → P tlb → P (transfer_of need on tlb m value).tlb
  unfolding transfer_of
  transfer_keeps (Value v) on tlb m value h = h
  transfer_keeps (Read w a) on tlb m value h = access_keeps P mark (access_cases w on tlb right.Read a) h
  transfer_keeps (ReadTwo a) on tlb m value h =
      let x : Accessed = access_of width.Word on tlb right.Read a in
      second_keeps x.access on x.tlb m a (access_keeps P mark (access_cases width.Word on tlb right.Read a) h)
  transfer_keeps (Write w a) on tlb m value h = access_keeps P mark (access_cases w on tlb right.Write a) h

-- a state with an entry of its TLB marked
abbrev pub with_mark : State → ℕ → Right → State
with_mark st k right = with_tlb st (set st.tlb k (marked right (get_or st.tlb k 0)))

-- what the marks of an entry keep of a state, a plan keeps: it changes nothing else
module _ (P : State → Type 0) (mark : (st : State) (k : ℕ) (right : Right) → P st → P (with_mark st k right)) where
  pub fetch_keeps : (st : State) (a : ℕ) → P st → P (after st (fetched st a))
  fetch_keeps st a h =
      access_keeps (λ (t : List ℕ). P (with_tlb st t)) (λ t k right g. mark (with_tlb st t) k right g)
      (access_cases width.Word (translates st) st.tlb right.Execute a) h

  operand_keeps : (st : State) → P st → (m : List ℕ) (ins : Instruction) (following : ℕ) → P (plan_operand st m ins following).state
  unfolding plan_operand
  operand_keeps st h m ins following =
      transfer_keeps (λ (t : List ℕ). P (with_tlb st t)) (λ t k right g. mark (with_tlb st t) k right g) _ (translates st) st.tlb m _ h

  pub plan_keeps : (st : State) (m : List ℕ) → P st → P (plan_of st m).state
  plan_keeps st m =
      plan_by m P (λ (x : Planned). P x.state)
      (record {
        fetch = fetch_keeps;
        interrupt = λ s h. h;
        first = λ s h why. h;
        second = λ s h why. h;
        undefined = λ s h. h;
        denied = λ s h. h;
        short = λ s h w shape d e. operand_keeps s h m _ _;
        long = λ s h w shape d e at. operand_keeps s h m _ _;
      })
      st

-- ---- the memory's length

module _ (m : List ℕ) where
  written_long : (w : Width) (a v : ℕ) → length (write_at w m a v) ≡ length m
  written_long width.Byte a v = simp length-set
  written_long width.Word a v = simp length-set

  pub stored_long : (s : Option Store) → length (stored s m) ≡ length m
  unfolding stored
  stored_long None = refl
  stored_long (Some s) = written_long s.width s.address s.value

  enter_long : (st : State) (pending number saved : ℕ) → length (enter_of st pending number saved m).memory ≡ length m
  unfolding pushed
  enter_long st pending number saved =
      enter_by (λ (o : Outcome). length o.memory ≡ length m) st pending number saved m refl (simp length-set)

  commit_long : (x : Plan) (st : State) → length (commit x st m).memory ≡ length m
  unfolding commit
  commit_long (Interrupt line) st = enter_long st _ _ _
  commit_long (Violation v) st = enter_long _ _ _ _
  commit_long (Trap why saved) st = enter_long st _ _ _
  commit_long (Perform op) st = stored_long op.store

pub step_memory_long : (st : State) (m : List ℕ) → length (step_of st m).memory ≡ length m
unfolding step_of
step_memory_long st m = commit_long m (plan_of st m).plan (plan_of st m).state

-- ---- the condition

-- an instruction that goes ahead enters nothing
pub no_entry : (op : Operation) (number pc flag : ℕ) → event_of op ≡ event.Entered number pc flag → ⊥
unfolding event_of
no_entry op number pc flag =
    either (λ (x : Event). x ≡ event.Entered number pc flag → ⊥) (eqb op.code HALT)
    (λ _ h. let z : ◌≡◌ {A = ℕ} 0 1 = cc in omega arith) (λ _ h. let z : ◌≡◌ {A = ℕ} 0 1 = cc in omega arith)

module _ (c : Condition) (m : List ℕ) (number pc flag : ℕ) where
  -- under a name that does not unfold
  record Stays (o : Outcome) : Type 0 where
    kept : o.event ≡ event.Entered number pc flag → o.state.condition ≡ c

  enter_stays : (st : State) (pending n saved : ℕ) → st.condition ≡ c → Stays (enter_of st pending n saved m)
  enter_stays st pending n saved e =
      enter_by Stays st pending n saved m
      (record { kept = λ h. let z : ◌≡◌ {A = ℕ} 0 1 = cc in absurd (omega arith) }) (record { kept = λ h. e })

  commit_stays : (x : Plan) (st : State) → st.condition ≡ c → Stays (commit x st m)
  unfolding commit
  commit_stays (Interrupt line) st e = enter_stays st _ _ _ e
  commit_stays (Violation v) st e = enter_stays (noted v.fault v.address st) _ _ _ e
  commit_stays (Trap why saved) st e = enter_stays st _ _ _ e
  commit_stays (Perform op) st e = record { kept = λ h. absurd (no_entry op number pc flag h) }

-- a step that enters the kernel keeps the condition
pub entered_condition :
    (st : State) (m : List ℕ) (number pc flag : ℕ) → (step_of st m).event ≡ event.Entered number pc flag
    → (step_of st m).state.condition ≡ st.condition
unfolding step_of
entered_condition st m number pc flag =
    let p : Planned = plan_of st m in
    let e : p.state.condition ≡ st.condition =
    plan_keeps (λ (s : State). s.condition ≡ st.condition) (λ s k right h. h) st m refl
    in
    (commit_stays st.condition m number pc flag p.plan p.state e).kept
