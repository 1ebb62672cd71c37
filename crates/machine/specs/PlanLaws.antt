-- Laws of a plan: what the fetches keep of a state, all its stages keep; and what is shown of each way that a plan ends holds of it. So too of
-- its last tests.
-- Assumes nothing.
use Rattle.std.specs.Prelude.{Bool, true, List, Option, None, Some, Result, Ok, Err, ◌≡◌, refl, ℕ, ◌≤◌, eqb}
use Rattle.std.proofs.Common.{arith}
use Rattle.decode.specs.Decode.{first_of, instruction_of}
use Rattle.decode.specs.declared.Flow.{Flow}
use Rattle.decode.specs.declared.Flow.TheVariants as flow
use Rattle.decode.specs.declared.Instruction.{Instruction}
use Rattle.decode.specs.declared.Shape.{Shape}
use Rattle.plan.specs.End.{end_of, performs}
use Rattle.plan.specs.Trap.{service_call, trap_number, zero_divisor}
use Rattle.machine.specs.Flag.{flag_of}
use Rattle.machine.specs.Plan.{after, fetched, interrupted, permitted, plan_fetch, plan_first, plan_of, plan_operand, plan_second}
use Rattle.machine.specs.Plan.{plan_transfer, planned, through_access, translates}
use Rattle.machine.specs.Register.{reg_of, sp_of}
use Rattle.status.specs.Pending.{lowest_line}
use Rattle.plan.specs.declared.Plan.{Plan}
use Rattle.plan.specs.declared.Operation.{Operation}
use Rattle.plan.specs.declared.Plan.TheVariants.{Interrupt, Perform, Trap, Violation}
use Rattle.machine.specs.declared.Planned.{Planned}
use Rattle.plan.specs.declared.Ready.{Ready}
use Rattle.plan.specs.declared.Trap as plan
use Rattle.plan.specs.declared.Trap.TheVariants as trap
use Rattle.machine.specs.declared.State.{State}
use Rattle.memory.specs.Memory.{word_at}
use Rattle.mmu.specs.Access.{violation}
use Rattle.mmu.specs.declared.Accessed.{Accessed}
use Rattle.mmu.specs.declared.Fault.{Fault}
use Rattle.mmu.specs.declared.Violation as mmu
use Rattle.transfer.specs.Need.{address_of, need_of, value_stored}
use Rattle.transfer.specs.Transfer.{transfer_of}
use Rattle.transfer.specs.declared.Need.{Need}
use Rattle.transfer.specs.declared.Data.{Data}
use Rattle.word.specs.Cases.{either}
use Rattle.word.specs.Word.{plus}

-- ---- a plan

-- `Kept` is what is known of the state at each stage, and `Claim` what is shown of a plan and the state after it.
pub record Ways (m : List ℕ) (Kept : State → Type 0) (Claim : Planned → Type 0) : Type 0 where
  -- a fetch keeps what is known
  pub fetch : (st : State) (a : ℕ) → Kept st → Kept (after st (fetched st a))
  pub interrupt : (st : State) → Kept st → Claim (planned (Interrupt (lowest_line st.pending)) st)
  -- the first or the second word is not granted
  pub first : (st : State) → Kept st → (why : Fault) → Claim (planned (Violation (violation why st.pc)) st)
  pub second : (st : State) → Kept st → (why : Fault) → Claim (planned (Violation (violation why (plus st.pc 2))) st)
  pub undefined : (st : State) → Kept st → Claim (planned (Trap trap.Undefined st.pc) st)
  pub denied : (st : State) → Kept st → Claim (planned (Trap trap.NotPermitted st.pc) st)
  -- the operand of an instruction of one word, and of two, decoded from the word w
  pub short :
      (st : State) → Kept st → (w : ℕ) (shape : Shape) → Some shape ≡ first_of w → permitted st shape.privilege ≡ true
      → Claim (plan_operand st m (instruction_of shape 0) (plus st.pc 2))
  pub long :
      (st : State) → Kept st → (w : ℕ) (shape : Shape) → Some shape ≡ first_of w → permitted st shape.privilege ≡ true → (at : ℕ)
      → Claim (plan_operand st m (instruction_of shape (word_at m at)) (plus st.pc 4))

module _ (m : List ℕ) (Kept : State → Type 0) (Claim : Planned → Type 0) (ways : Ways m Kept Claim) where
  through :
      (x : Result ℕ Fault) (st : State) (a : ℕ) (f : ℕ → Planned) → ((why : Fault) → Claim (planned (Violation (violation why a)) st))
      → ((at : ℕ) → Claim (f at)) → Claim (through_access x st a f)
  through (Ok at) st a f fails goes = goes at
  through (Err why) st a f fails goes = fails why

  by_second :
      (st : State) → Kept st → (w : ℕ) (shape : Shape) → Some shape ≡ first_of w → permitted st shape.privilege ≡ true
      → Claim (plan_second st m shape)
  unfolding plan_second
  by_second st k w shape d e =
      let x : Accessed = fetched st (plus st.pc 2) in
      let k' : Kept (after st x) = ways.fetch st (plus st.pc 2) k in
      either Claim shape.second
      (λ _. through x.access (after st x) (plus st.pc 2) _ (ways.second (after st x) k') (ways.long (after st x) k' w shape d e))
      (λ _. ways.short st k w shape d e)

  by_first : (st : State) → Kept st → (w : ℕ) (first : Option Shape) → first ≡ first_of w → Claim (plan_first first st m)
  unfolding plan_first
  by_first st k w None d = ways.undefined st k
  by_first st k w (Some shape) d =
      either Claim (permitted st shape.privilege) (λ e. by_second st k w shape d e) (λ _. ways.denied st k)

  pub plan_by : (st : State) → Kept st → Claim (plan_of st m)
  unfolding plan_of plan_fetch
  plan_by st k =
      let x : Accessed = fetched st st.pc in
      let k' : Kept (after st x) = ways.fetch st st.pc k in
      either Claim (interrupted st) (λ _. ways.interrupt st k)
      (λ _.
      through x.access (after st x) st.pc _ (ways.first (after st x) k')
      (λ at. by_first (after st x) k' (word_at m at) (first_of (word_at m at)) refl))

-- ---- the last tests

-- a trap's number is 12 to 15
pub end_by :
    (Claim : Plan → Type 0) (x : Ready) → ((pc states : ℕ) → Claim (performs x pc states))
    → ((why : plan.Trap) (saved : ℕ) → zero_divisor ≤ trap_number why → trap_number why ≤ service_call → Claim (Trap why saved)) → (f : Flow) (pc : ℕ) (jumps : Bool)
    → Claim (end_of f x pc jumps)
unfolding end_of
end_by Claim x go traps flow.Next pc jumps = go _ _
end_by Claim x go traps flow.Jump pc jumps = either Claim jumps (λ _. go _ _) (λ _. go _ _)
end_by Claim x go traps flow.Call pc jumps = go _ _
end_by Claim x go traps flow.Return pc jumps = go _ _
end_by Claim x go traps flow.Resume pc jumps = go _ _
end_by Claim x go traps flow.Trap pc jumps = traps _ _ (omega arith) (omega arith)
end_by Claim x go traps flow.Divide pc jumps = either Claim (eqb x.source 0) (λ _. traps _ _ (omega arith) (omega arith)) (λ _. go _ _)
end_by Claim x go traps flow.Shift pc jumps = go _ _

-- ---- the operand's plan

-- what is shown of each way that it goes: the instruction is carried out, an access fails, or there is a trap
pub record Ends (Claim : Plan → Type 0) (code : ℕ) : Type 0 where
  pub performs : (op : Operation) → op.code ≡ code → Claim (Perform op)
  pub fails : (why : Fault) (a : ℕ) → Claim (Violation (violation why a))
  pub traps : (why : plan.Trap) (saved : ℕ) → zero_divisor ≤ trap_number why → trap_number why ≤ service_call → Claim (Trap why saved)

transfer_by :
    (Claim : Plan → Type 0) (t : Result Data mmu.Violation) (st : State) (ins : Instruction) → Ends Claim ins.code → (held address following : ℕ)
    → Claim (plan_transfer t st ins held address following)
transfer_by Claim (Ok done) st ins x held address following =
    end_by Claim _ (λ pc states. x.performs _ refl) x.traps ins.flow st.pc _
transfer_by Claim (Err v) st ins x held address following = x.fails v.fault v.address

pub operand_by :
    (Claim : Plan → Type 0) (st : State) (m : List ℕ) (ins : Instruction) (following : ℕ) → Ends Claim ins.code
    → Claim (plan_operand st m ins following).plan
unfolding plan_operand
operand_by Claim st m ins following x =
    let held : ℕ = reg_of st following ins.rd in
    let address : ℕ = address_of (reg_of st following) ins.operand in
    let need : Need = need_of ins.access (reg_of st following) (sp_of st) (flag_of st) address ins.operand in
    transfer_by Claim (transfer_of need (translates st) st.tlb m (value_stored ins.code held following)).transfer st ins x held address following
