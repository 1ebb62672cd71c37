-- Confidentiality: on two memories that agree wherever the TLB lets a program see, a step in user mode has one plan, and so one outcome but
-- for memory and the handler's address.
-- Assumes nothing.
use Rattle.std.specs.Prelude.{Bool, ◌||◌, List, ◌≡◌, eqb, get_or, length, Result, Ok, Err, Option, None, Some}
use Rattle.std.proofs.Math.Bool.{cond, false, true, or-true}
use Rattle.std.proofs.Math.Path.{refl, ap, ap₂}
use Rattle.std.proofs.Common.{subst, sym, ◌∙◌}
use Prim.Native.Nat.{ℕ, ◌%◌, ◌<◌}
use Rattle.decode.specs.Code.{HALT}
use Rattle.decode.specs.Decode.{first_of, instruction_of}
use Rattle.decode.specs.declared.Instruction.{Instruction}
use Rattle.decode.specs.declared.Shape.{Shape}
use Rattle.plan.specs.Trap.{trap_number}
use Rattle.machine.specs.Enter.{enter_of, entered, lost}
use Rattle.machine.specs.Execute.{event_of}
use Rattle.machine.specs.Fault.{noted}
use Rattle.machine.specs.Flag.{flag_of}
use Rattle.transfer.specs.Need.{address_of, need_of, value_stored}
use Rattle.machine.specs.Plan.{after, fetched, interrupted, permitted, plan_fetch, plan_first, plan_of, plan_operand, plan_second, plan_transfer, planned, through_access, translates}
use Rattle.machine.specs.Register.{reg_of, sp_of}
use Rattle.machine.specs.State.{with_pending, with_tlb}
use Rattle.machine.specs.Step.{commit, step_of}
use Rattle.status.specs.Pending.{without}
use Rattle.transfer.specs.Transfer.{by_access, loaded, read_second, transfer_at, transfer_of}
use Rattle.transfer.specs.declared.Need.{Need}
use Rattle.transfer.specs.declared.Need.TheVariants as need
use Rattle.plan.specs.declared.Operation.{Operation}
use Rattle.plan.specs.declared.Plan.{Plan}
use Rattle.plan.specs.declared.Plan.TheVariants.{Interrupt, Perform, Trap, Violation}
use Rattle.plan.specs.declared.Trap.TheVariants.{NotPermitted}
use Rattle.machine.specs.declared.Planned.{Planned}
use Rattle.machine.specs.declared.State.{State}
use Rattle.transfer.specs.declared.Data.{Data}
use Rattle.transfer.specs.declared.Transferred.{Transferred}
use Rattle.mmu.specs.Access.{access_of}
use Rattle.mmu.specs.Answers.{fault_number}
use Rattle.mmu.specs.Laws.{AccessCases, access_keeps}
use Rattle.mmu.proofs.Laws.{access_cases}
use Rattle.memory.specs.Memory.{read_at, word_at}
use Rattle.mmu.specs.declared.Accessed.{Accessed}
use Rattle.mmu.specs.declared.Fault.{Fault}
use Rattle.mmu.specs.declared.Right.{Right}
use Rattle.mmu.specs.declared.Right.TheVariants.{Execute, Read, Write}
use Rattle.word.specs.Cases.{either}
use Rattle.word.specs.Word.{halves, plus, upper}
use Rattle.word.specs.declared.Width.{Width}
use Rattle.word.specs.declared.Width.TheVariants.{Byte, Word}
use Rattle.isolation.proofs.Rights.{ByteIn, BytesIn, access_in, on, rights_marked, user_after}
use Rattle.isolation.specs.OneStep.{Confidentiality, Indistinct, ending_of}
use Rattle.isolation.specs.Statement.{UserMode, AtHandler, has_right, visible}
use Rattle.isolation.proofs.Stores.{pushed_agree, stored_agree}

-- ---- what is read

-- a right by which a byte is seen
abbrev Sees : Right → Type 0
Sees Read = Unit {0}
Sees Write = ⊥
Sees Execute = Unit {0}

or_left : (a b : Bool) → a ≡ true → (a || b) ≡ true
or_left a b e = rw e

or_right : (a b : Bool) → b ≡ true → (a || b) ≡ true
or_right a b e = rw e (or-true a)

seen : (tlb : List ℕ) (frame : ℕ) (right : Right) → Sees right → has_right tlb right frame ≡ true → visible tlb frame ≡ true
seen tlb frame Read s h = or_left (has_right tlb Read frame) (has_right tlb Execute frame) h
seen tlb frame Write s h = elim s [ ]
seen tlb frame Execute s h = or_right (has_right tlb Read frame) (has_right tlb Execute frame) h

module _ (m m' : List ℕ) where
  -- the memories agree on all that a TLB lets be seen
  abbrev pub Agree : List ℕ → Type 0
  Agree tlb = (a : ℕ) → a < 65536 → visible tlb (upper a) ≡ true → get_or m a 0 ≡ get_or m' a 0

  agree_after : {on : Bool} {tlb : List ℕ} {right : Right} {a : ℕ} {x : Accessed} → AccessCases on tlb right a x → Agree tlb → Agree x.tlb
  agree_after w agree = access_keeps Agree (λ t k by agree a h v. agree a h (simp (rights_marked t k by) at v)) w agree

  module _ (t : Bool) (e : t ≡ true) (tlb : List ℕ) (agree : Agree tlb) where
    here : (right : Right) → Sees right → {p : ℕ} → ByteIn tlb right p → get_or m p 0 ≡ get_or m' p 0
    here right s {p} b = agree p b.inside (seen tlb (upper p) right s b.allowed)

    covered : (width : Width) (right : Right) → Sees right → (p : ℕ) → BytesIn width tlb right p → read_at width m p ≡ read_at width m' p
    covered Byte right s p b = here right s b
    covered Word right s p b = ap₂ halves (here right s b.0) (here right s b.1)

    read_same :
        (width : Width) (right : Right) → Sees right → (a p : ℕ) → (access_of width t tlb right a).access ≡ Ok p
        → read_at width m p ≡ read_at width m' p
    read_same width right s a p q = covered width right s p (access_in t e tlb right a p width q)

  -- ---- the data access

  at_same :
      (x : Result ℕ Fault) (a : ℕ) (f f' : ℕ → Data) → ((p : ℕ) → x ≡ Ok p → f p ≡ f' p) → transfer_at x a f ≡ transfer_at x a f'
  at_same (Ok p) a f f' h = ap Ok (h p refl)
  at_same (Err why) a f f' h = refl

  by_same :
      (x : Accessed) (a : ℕ) (f f' : ℕ → Data) → ((p : ℕ) → x.access ≡ Ok p → f p ≡ f' p) → by_access x a f ≡ by_access x a f'
  by_same x a f f' h = rw (at_same x.access a f f' h)

  module _ (t : Bool) (e : t ≡ true) where
    two_same :
        (x : Result ℕ Fault) (tlb : List ℕ) → Agree tlb → (a : ℕ) → ((p : ℕ) → x ≡ Ok p → word_at m p ≡ word_at m' p)
        → read_second x t tlb m a ≡ read_second x t tlb m' a
    two_same (Ok at) tlb agree a first =
        by_same (access_of Word t tlb Read (plus a 2)) (plus a 2) _ _
        (λ p q. rw (first at refl, read_same t e tlb agree Word Read tt (plus a 2) p q))
    two_same (Err why) tlb agree a first = refl

    transfer_same : (need : Need) (tlb : List ℕ) → Agree tlb → (value : ℕ) → transfer_of need t tlb m value ≡ transfer_of need t tlb m' value
    unfolding transfer_of
    transfer_same (need.Value v) tlb agree value = refl
    transfer_same (need.Read width a) tlb agree value =
        by_same (access_of width t tlb Read a) a _ _ (λ p q. ap loaded (read_same t e tlb agree width Read tt a p q))
    transfer_same (need.ReadTwo a) tlb agree value =
        let x : Accessed = access_of Word t tlb Read a in
        two_same x.access x.tlb (agree_after (access_cases Word t tlb Read a) agree) a
        (λ p q. read_same t e tlb agree Word Read tt a p q)
    transfer_same (need.Write width a) tlb agree value = refl

  -- ---- the stages of a plan

  operand_same :
      (st : State) → UserMode st → Agree st.tlb → (ins : Instruction) (following : ℕ)
      → plan_operand st m ins following ≡ plan_operand st m' ins following
  unfolding plan_operand
  operand_same st u agree ins following =
      let held : ℕ = reg_of st following ins.rd in
      let address : ℕ = address_of (reg_of st following) ins.operand in
      let need : Need = need_of ins.access (reg_of st following) (sp_of st) (flag_of st) address ins.operand in
      ap (λ (x : Transferred). planned (plan_transfer x.transfer st ins held address following) (with_tlb st x.tlb))
      (transfer_same (translates st) (on st u) need st.tlb agree (value_stored ins.code held following))

  -- a fetch that is granted reads one word from both, and a plan goes on alike
  fetch_same :
      (st : State) → UserMode st → Agree st.tlb → (a : ℕ) (f f' : ℕ → Planned)
      → (UserMode (after st (fetched st a)) → Agree (fetched st a).tlb → (p : ℕ) → word_at m p ≡ word_at m' p → f p ≡ f' p)
      → through_access (fetched st a).access (after st (fetched st a)) a f ≡ through_access (fetched st a).access (after st (fetched st a)) a f'
  fetch_same st u agree a f f' h = by (fetched st a).access refl
    where
      by :
          (x : Result ℕ Fault) → (fetched st a).access ≡ x
          → through_access x (after st (fetched st a)) a f ≡ through_access x (after st (fetched st a)) a f'
      by (Ok p) q =
          h (user_after st (fetched st a).tlb u) (agree_after (access_cases Word (translates st) st.tlb Execute a) agree) p
          (read_same (translates st) (on st u) st.tlb agree Word Execute tt a p q)
      by (Err why) q = refl

  second_same : (st : State) → UserMode st → Agree st.tlb → (shape : Shape) → plan_second st m shape ≡ plan_second st m' shape
  unfolding plan_second
  second_same st u agree shape =
      ap₂ (cond shape.second)
      (fetch_same st u agree (plus st.pc 2) _ _
      (λ u' agree' p w.
      let s : State = after st (fetched st (plus st.pc 2)) in
      operand_same s u' agree' (instruction_of shape (word_at m p)) (plus st.pc 4)
      ∙ ap (λ (n : ℕ). plan_operand s m' (instruction_of shape n) (plus st.pc 4)) w))
      (operand_same st u agree (instruction_of shape 0) (plus st.pc 2))

  first_same : (st : State) → UserMode st → Agree st.tlb → (first : Option Shape) → plan_first first st m ≡ plan_first first st m'
  unfolding plan_first
  first_same st u agree None = refl
  first_same st u agree (Some shape) =
      ap (λ (x : Planned). cond (permitted st shape.privilege) x (planned (Trap NotPermitted st.pc) st)) (second_same st u agree shape)

  pub plan_same : (st : State) → UserMode st → Agree st.tlb → plan_of st m ≡ plan_of st m'
  unfolding plan_of plan_fetch
  plan_same st u agree =
      ap (cond (interrupted st) _)
      (fetch_same st u agree st.pc _ _
      (λ u' agree' p w.
      let s : State = after st (fetched st st.pc) in
      first_same s u' agree' (first_of (word_at m p)) ∙ ap (λ (n : ℕ). plan_first (first_of n) s m') w))

  -- ---- the step that carries out one plan

  module _ (l : length m ≡ length m') where
    enter_same : (s : State) (pending number saved : ℕ) → Indistinct m m' (enter_of s pending number saved m) (enter_of s pending number saved m')
    unfolding enter_of
    enter_same s pending number saved = by (eqb (s.ssp % 2) 1)
      where
        by :
            (t : Bool)
            → Indistinct m m' (cond t (lost s m) (entered (with_pending s pending) number saved m))
            (cond t (lost s m') (entered (with_pending s pending) number saved m'))
        by true = record { told = refl; state = refl; handler = tt; handler' = tt; memory = λ a e. e }
        by false =
            record {
              told = refl;
              state = refl;
              handler = refl;
              handler' = refl;
              memory = λ a e. pushed_agree s.ssp s.flags saved m m' a l e;
            }

    no_entry : (op : Operation) (s : State) (n : List ℕ) → AtHandler (ending_of (event_of op)) s n
    unfolding event_of
    no_entry op s n = either (λ x. AtHandler (ending_of x) s n) (eqb op.code HALT) (λ _. tt) (λ _. tt)

    commit_same : (x : Plan) (s : State) → Indistinct m m' (commit x s m) (commit x s m')
    unfolding commit
    commit_same (Interrupt line) s = enter_same s (without s.pending line) line s.pc
    commit_same (Violation v) s = enter_same (noted v.fault v.address s) s.pending (fault_number v.fault) s.pc
    commit_same (Trap why saved) s = enter_same s s.pending (trap_number why) saved
    commit_same (Perform op) s =
        record {
          told = refl;
          state = refl;
          handler = no_entry op _ _;
          handler' = no_entry op _ _;
          memory = λ a e. stored_agree op.store m m' a l e;
        }

pub confidentiality : Confidentiality
unfolding step_of
confidentiality st m m' u alike =
    subst (λ (x : Planned). Indistinct m m' (step_of st m) (commit x.plan x.state m')) (plan_same m m' st u alike.same)
    (commit_same m m' (alike.long ∙ sym alike.long') (plan_of st m).plan (plan_of st m).state)
