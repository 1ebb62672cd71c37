-- Integrity: a step in user mode writes only into frames with the write right, but for what a kernel entry pushes, and keeps P, I, the MMU,
-- SSP, the rights that the TLB gives and the condition, but for what an entry or a loss sets.
-- Assumes nothing.
use Rattle.std.specs.Prelude.{Bool, false, true, List, ◌≡◌, eqb, get_or, set, Result, Ok, Err, Option, Some}
use Rattle.std.proofs.Math.Bool.{false≢true}
use Rattle.std.proofs.Math.Logic.{inl}
use Rattle.std.proofs.Math.Path.{refl}
use Rattle.std.proofs.Common.{ap, ◌∙◌, ne_eqb}
use Prim.Native.Nat.{ℕ}
use Rattle.decode.specs.Code.{HALT}
use Rattle.decode.specs.Decode.{instruction_of}
use Rattle.decode.specs.Laws.{plain}
use Rattle.decode.specs.declared.Instruction.{Instruction}
use Rattle.machine.specs.Enter.{enter_of}
use Rattle.machine.specs.Execute.{after_operation, event_of}
use Rattle.machine.specs.Fault.{noted}
use Rattle.machine.specs.Flag.{flag_of}
use Rattle.transfer.specs.Need.{address_of, need_of, value_stored}
use Rattle.machine.specs.Kept.{stored_long, transfer_keeps}
use Rattle.machine.specs.PlanLaws.{Ways, end_by, plan_by}
use Rattle.machine.specs.Plain.{plain_here}
use Rattle.machine.specs.Plan.{plan_of, plan_operand, plan_transfer, translates}
use Rattle.machine.specs.Register.{reg_of, sp_of, ssp_after, ssp_with, with_reg, with_sp}
use Rattle.machine.specs.State.{with_pc, with_tlb}
use Rattle.machine.specs.Step.{commit, step_of}
use Rattle.status.specs.Pending.{without}
use Rattle.machine.specs.StepLaws.{body_by, enter_by}
use Rattle.transfer.specs.Transfer.{read_second, transfer_at, transfer_of}
use Rattle.machine.specs.declared.Condition.{Condition}
use Rattle.machine.specs.declared.Event.TheVariants as event
use Rattle.transfer.specs.declared.Need.{Need}
use Rattle.transfer.specs.declared.Need.TheVariants.{Read, ReadTwo, Value, Write}
use Rattle.plan.specs.Trap.{trap_number}
use Rattle.plan.specs.declared.Operation.{Operation}
use Rattle.plan.specs.declared.Plan.{Plan}
use Rattle.plan.specs.declared.Plan.TheVariants.{Interrupt, Perform, Trap, Violation}
use Rattle.machine.specs.declared.Planned.{Planned}
use Rattle.machine.specs.declared.State.{State}
use Rattle.transfer.specs.declared.Data.{Data}
use Rattle.mmu.specs.declared.Violation as mmu
use Rattle.transfer.specs.declared.Transferred.{Transferred}
use Rattle.mmu.specs.Access.{access_of}
use Rattle.mmu.specs.Answers.{fault_number}
use Rattle.mmu.specs.Entry.{marked}
use Rattle.mmu.specs.Laws.{access_keeps}
use Rattle.mmu.proofs.Laws.{access_cases}
use Rattle.mmu.specs.declared.Fault.{Fault}
use Rattle.mmu.specs.declared.Right.{Right}
use Rattle.mmu.specs.declared.Right.TheVariants as right
use Rattle.memory.specs.declared.Store.{Store}
use Rattle.word.specs.Cases.{either}
use Rattle.word.specs.Word.{plus}
use Rattle.word.specs.declared.Width.TheVariants.{Word}
use Rattle.isolation.proofs.Rights.{access_in, on, rights_marked}
use Rattle.isolation.specs.OneStep.{Confined, Integrity, Keeps, SameRights}
use Rattle.isolation.specs.Statement.{UserMode}
use Rattle.isolation.proofs.Stores.{Spares, pushed_kept, pushed_long, spares_at, spares_nothing}

-- ---- states that keep what an instruction keeps

-- the fields that the theorem speaks of
record Core : Type 0 where
  p : Bool
  i : Bool
  mmu : Bool
  ssp : ℕ
  condition : Condition
  tlb : List ℕ

abbrev core : State → Core
core s = record { p = s.flags.p; i = s.flags.i; mmu = s.mmu; ssp = s.ssp; condition = s.condition; tlb = s.tlb }

-- SP is USP
ssp_with_lem : (p : Bool) (ssp v : ℕ) → p ≡ false → ssp_with p ssp v ≡ ssp
unfolding ssp_with
ssp_with_lem p ssp v e = rw e

ssp_after_lem : (p : Bool) (ssp n v : ℕ) → p ≡ false → ssp_after p ssp n v ≡ ssp
unfolding ssp_after
ssp_after_lem p ssp n v e = either (λ (x : ℕ). x ≡ ssp) (eqb n 13) (λ _. ssp_with_lem p ssp v e) (λ _. refl)

module _ (st : State) where
  abbrev Near : State → Type 0
  Near s = Keeps st false st.ssp st.condition s

  near_core : {s s' : State} → Near s → core s' ≡ core s → Near s'
  near_core n e =
      record {
        privilege = ap (λ (c : Core). c.p) e ∙ n.privilege;
        stack = ap (λ (c : Core). c.ssp) e ∙ n.stack;
        condition = ap (λ (c : Core). c.condition) e ∙ n.condition;
        ports = ap (λ (c : Core). c.i) e ∙ n.ports;
        mmu = ap (λ (c : Core). c.mmu) e ∙ n.mmu;
        rights = rw (ap (λ (c : Core). c.tlb) e) n.rights;
      }

  mark : (t : List ℕ) (k : ℕ) (by : Right) → SameRights st.tlb t → SameRights st.tlb (set t k (marked by (get_or t k 0)))
  mark t k by h right frame = rights_marked t k by right frame ∙ h right frame

  near_tlb : (s : State) (tlb : List ℕ) → Near s → SameRights st.tlb tlb → Near (with_tlb s tlb)
  near_tlb s tlb n r = record { privilege = n.privilege; stack = n.stack; condition = n.condition; ports = n.ports; mmu = n.mmu; rights = r }

  near_sp : (s : State) (v : ℕ) → Near s → Near (with_sp s v)
  near_sp s v n = near_core n (rw (ssp_with_lem s.flags.p s.ssp v n.privilege))

  near_reg : (s : State) (k v : ℕ) → Near s → Near (with_reg s k v)
  near_reg s k v n = near_core n (rw (ssp_after_lem s.flags.p s.ssp k v n.privilege))

  -- ---- the plan

  -- an instruction that anyone may use, whose store spares what has no write right
  record OperationIn (op : Operation) : Type 0 where
    plain_code : plain op.code ≡ true
    spares : Spares st.tlb op.store

  abbrev PlanIn : Plan → Type 0
  PlanIn (Interrupt line) = Unit {0}
  PlanIn (Violation v) = Unit {0}
  PlanIn (Trap why saved) = Unit {0}
  PlanIn (Perform op) = OperationIn op

  record PlannedIn (x : Planned) : Type 0 where
    near : Near x.state
    plan : PlanIn x.plan

  abbrev TransferIn : Result Data mmu.Violation → Type 0
  TransferIn (Ok d) = Spares st.tlb d.store
  TransferIn (Err v) = Unit {0}

  at_in : (x : Result ℕ Fault) (a : ℕ) (f : ℕ → Data) → ((p : ℕ) → x ≡ Ok p → Spares st.tlb (f p).store) → TransferIn (transfer_at x a f)
  at_in (Ok p) a f h = h p refl
  at_in (Err why) a f h = tt

  second_in_lem : (x : Result ℕ Fault) (t : Bool) (tlb m : List ℕ) (a : ℕ) → TransferIn (read_second x t tlb m a).transfer
  second_in_lem (Ok p) t tlb m a = at_in (access_of Word t tlb right.Read (plus a 2)).access (plus a 2) _ (λ _ _. spares_nothing st.tlb)
  second_in_lem (Err why) t tlb m a = tt

  module _ (t : Bool) (e : t ≡ true) (tlb m : List ℕ) (same : SameRights st.tlb tlb) (value : ℕ) where
    back : (s : Option Store) → Spares tlb s → Spares st.tlb s
    back s h m a w = h m a (same right.Write _ ∙ w)

    transfer_in : (need : Need) → TransferIn (transfer_of need t tlb m value).transfer
    unfolding transfer_of
    transfer_in (Value v) = spares_nothing st.tlb
    transfer_in (Read width a) = at_in (access_of width t tlb right.Read a).access a _ (λ _ _. spares_nothing st.tlb)
    transfer_in (ReadTwo a) = second_in_lem (access_of Word t tlb right.Read a).access t (access_of Word t tlb right.Read a).tlb m a
    transfer_in (Write width a) =
        at_in (access_of width t tlb right.Write a).access a _
        (λ p q. back (Some (record { width = width; address = p; value = value })) (spares_at tlb width p value (access_in t e tlb right.Write a p width q)))

  rest_in :
      (t : Result Data mmu.Violation) → TransferIn t → (s : State) (ins : Instruction) → plain ins.code ≡ true → (held address following : ℕ)
      → PlanIn (plan_transfer t s ins held address following)
  rest_in (Ok d) h s ins c held address following =
      end_by PlanIn _ (λ pc states. record { plain_code = c; spares = h }) (λ number saved l h. tt) ins.flow s.pc _
  rest_in (Err v) h s ins c held address following = tt

  module _ (u : UserMode st) (m : List ℕ) where
    near_user : (s : State) → Near s → UserMode s
    near_user s n = record { user = n.privilege; no_ports = n.ports ∙ u.no_ports; mmu_on = n.mmu ∙ u.mmu_on }

    operand_in : (s : State) → Near s → (ins : Instruction) → plain ins.code ≡ true → (following : ℕ) → PlannedIn (plan_operand s m ins following)
    unfolding plan_operand
    operand_in s n ins c following =
        let held : ℕ = reg_of s following ins.rd in
        let address : ℕ = address_of (reg_of s following) ins.operand in
        let need : Need = need_of ins.access (reg_of s following) (sp_of s) (flag_of s) address ins.operand in
        let value : ℕ = value_stored ins.code held following in
        let t : Transferred = transfer_of need (translates s) s.tlb m value in
        record {
          near = near_tlb s t.tlb n (transfer_keeps (SameRights st.tlb) mark need (translates s) s.tlb m value n.rights);
          plan =
              rest_in t.transfer (transfer_in (translates s) (on s (near_user s n)) s.tlb m n.rights value need) s ins c held address following;
        }

    ways : Ways m Near PlannedIn
    ways =
        record {
          fetch = λ s a n. near_tlb s _ n (access_keeps (SameRights st.tlb) mark (access_cases Word (translates s) s.tlb right.Execute a) n.rights);
          interrupt = λ s n. record { near = n; plan = tt };
          first = λ s n why. record { near = n; plan = tt };
          second = λ s n why. record { near = n; plan = tt };
          undefined = λ s n. record { near = n; plan = tt };
          denied = λ s n. record { near = n; plan = tt };
          short = λ s n w shape d e. operand_in s n (instruction_of shape 0) (plain_here s n.privilege (n.ports ∙ u.no_ports) w shape d e) (plus s.pc 2);
          long = λ s n w shape d e at. operand_in s n (instruction_of shape _) (plain_here s n.privilege (n.ports ∙ u.no_ports) w shape d e) (plus s.pc 4);
        }

    -- ---- the step that carries it out

    operation_near : (s : State) → Near s → (op : Operation) → plain op.code ≡ true → Near (after_operation s op)
    unfolding after_operation
    operation_near s n op c =
        let s' : State = with_pc s op.pc in
        let n' : Near s' = near_core n refl in
        body_by Near s' op
        (record {
          load = near_reg s' op.rd op.source n';
          compare = near_core n' refl;
          compute = near_reg _ op.rd _ (near_core n' refl);
          push = near_sp s' _ n';
          pop = near_reg _ op.rd op.source (near_sp s' _ n');
          return = near_sp s' _ n';
          input = λ e. absurd (false≢true (rw e at c));
          output = λ e. absurd (false≢true (rw e at c));
          resume = λ e. absurd (false≢true (rw e at c));
          halt = λ e. absurd (false≢true (rw e at c));
          nothing = n';
        })

    -- it is no HALT
    operation_event : (op : Operation) → plain op.code ≡ true → event_of op ≡ event.Executed op.states
    unfolding event_of
    operation_event op c = rw (ne_eqb op.code HALT (λ e. false≢true (rw e at c)))

    enter_confined : (s : State) → Near s → (pending number saved : ℕ) → Confined st m (enter_of s pending number saved m)
    enter_confined s n pending number saved =
        enter_by (Confined st m) s pending number saved m
        (record {
          long = refl;
          spared = λ a w. inl refl;
          kept = record { privilege = n.privilege; stack = n.stack; condition = refl; ports = n.ports; mmu = n.mmu; rights = n.rights };
        })
        (record {
          long = pushed_long s.ssp s.flags saved m;
          spared = λ a w. rw (← n.stack) (pushed_kept s.ssp s.flags saved m a);
          kept = record { privilege = refl; stack = rw n.stack; condition = n.condition; ports = n.ports; mmu = n.mmu; rights = n.rights };
        })

    commit_confined : (x : Plan) → PlanIn x → (s : State) → Near s → Confined st m (commit x s m)
    unfolding commit
    commit_confined (Interrupt line) h s n = enter_confined s n (without s.pending line) line s.pc
    commit_confined (Violation v) h s n = enter_confined (noted v.fault v.address s) (near_core n refl) s.pending (fault_number v.fault) s.pc
    commit_confined (Trap why saved) h s n = enter_confined s n s.pending (trap_number why) saved
    commit_confined (Perform op) h s n =
        record {
          long = stored_long m op.store;
          spared = λ a w. inl (h.spares m a w);
          kept = rw (operation_event op h.plain_code) (operation_near s n op h.plain_code);
        }

pub integrity : Integrity
unfolding step_of
integrity st m u =
    let n : Near st st = record { privilege = u.user; stack = refl; condition = refl; ports = refl; mmu = refl; rights = λ right frame. refl } in
    let x : PlannedIn st (plan_of st m) = plan_by m (Near st) (PlannedIn st) (ways st u m) st n in
    commit_confined st u m (plan_of st m).plan x.plan (plan_of st m).state x.near
