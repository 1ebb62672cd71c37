-- The numbers of a plan fit their fields, if those of the state do and the memory is of bytes.
-- Assumes nothing.
use Rattle.std.specs.Prelude.{Bool, cond, false, true, List, eqb, Result, Ok, Err, Option, None, Some}
use Prim.Native.Nat.{ℕ}
use native.Mathlib.Omega.{arith}
use Rattle.std.proofs.lemmas.Nat.{trailing_le}
use Rattle.decode.specs.Code.{CALL}
use Rattle.decode.specs.Decode.{operand_of}
use Rattle.decode.specs.declared.DataAccess.{DataAccess}
use Rattle.decode.specs.declared.DataAccess.TheVariants as operandAccess
use Rattle.decode.specs.declared.Flow.{Flow}
use Rattle.decode.specs.declared.Flow.TheVariants as flow
use Rattle.decode.specs.declared.Instruction.{Instruction}
use Rattle.decode.specs.declared.Operand.{Operand}
use Rattle.machine.specs.Flag.{flag_of}
use Rattle.machine.specs.Kept.{fetch_keeps, with_mark}
use Rattle.transfer.specs.Need.{address_of, load_need, need_of, store_need, value_stored}
use Rattle.machine.specs.Plan.{plan_of, plan_operand, plan_transfer, translates}
use Rattle.plan.specs.End.{end_of, performs}
use Rattle.plan.specs.Trap.{trap_number}
use Rattle.machine.specs.PlanLaws.{plan_by}
use Rattle.machine.specs.Register.{reg_in, reg_of, sp_in, sp_of}
use Rattle.transfer.specs.Transfer.{read_second, transfer_at, transfer_of}
use Rattle.transfer.specs.declared.Need.{Need}
use Rattle.transfer.specs.declared.Need.TheVariants.{Read, ReadTwo, Value, Write}
use Rattle.plan.specs.declared.Operation.{Operation}
use Rattle.plan.specs.declared.Plan.{Plan}
use Rattle.plan.specs.declared.Plan.TheVariants.{Interrupt, Perform, Trap, Violation}
use Rattle.machine.specs.declared.Planned.{Planned}
use Rattle.plan.specs.declared.Ready.{Ready}
use Rattle.machine.specs.declared.State.{State}
use Rattle.transfer.specs.declared.Data.{Data}
use Rattle.mmu.specs.declared.Violation as mmu
use Rattle.mmu.specs.Access.{access_of}
use Rattle.mmu.specs.Entry.{marked}
use Rattle.mmu.specs.Marks.{Like, marked_like}
use Rattle.memory.specs.Memory.{read_at, word_at}
use Rattle.mmu.specs.declared.Accessed.{Accessed}
use Rattle.mmu.specs.declared.Fault.{Fault}
use Rattle.mmu.specs.declared.Right.{Right}
use Rattle.mmu.specs.declared.Right.TheVariants as right
use Rattle.memory.specs.declared.Store.{Store}
use Rattle.word.specs.Cases.{either}
use Rattle.word.specs.Laws.{signed4_word, wrap_fits}
use Rattle.word.specs.Word.{plus}
use Rattle.word.specs.declared.Width.{Width}
use Rattle.word.specs.declared.Width.TheVariants as width
use Rattle.roundtrip.specs.Each.{each_set}
use Rattle.roundtrip.proofs.Good.{flag_bits_lem}
use Rattle.roundtrip.specs.Statement.{Byte, Bytes, EntryFits, Ranged, Word}

-- ---- what fits

-- the value that is stored
abbrev pub StoreFits : Option Store → Type 0
StoreFits None = Unit {0}
StoreFits (Some s) = Word s.value

pub record OperationFits (op : Operation) : Type 0 where
  pub held : Word op.held
  pub source : Word op.source
  pub pc : Word op.pc
  pub store : StoreFits op.store

abbrev pub PlanFits : Plan → Type 0
PlanFits (Interrupt line) = Byte line
PlanFits (Violation v) = Word v.address
PlanFits (Trap why saved) = Byte (trap_number why) × Word saved
PlanFits (Perform op) = OperationFits op

abbrev NeedFits : Need → Type 0
NeedFits (Value v) = Word v
NeedFits (Read w a) = Word a
NeedFits (ReadTwo a) = Word a
NeedFits (Write w a) = Word a

abbrev DataFits : Data → Type 0
DataFits d = Word d.source × Word d.second × StoreFits d.store

abbrev TransferFits : Result Data mmu.Violation → Type 0
TransferFits (Ok d) = DataFits d
TransferFits (Err v) = Word v.address

record ReadyFits (x : Ready) : Type 0 where
  held : Word x.held
  address : Word x.address
  following : Word x.following
  source : Word x.source
  second : Word x.second
  store : StoreFits x.store

-- ---- registers and memory

pub word_either : (t : Bool) (a b : ℕ) → Word a → Word b → Word (cond t a b)
word_either true a b p q = p
word_either false a b p q = q

sp_fits : (st : State) → Ranged st → Word (sp_of st)
unfolding sp_in
sp_fits st r = search (r, word_either)

reg_fits : (st : State) → Ranged st → (following : ℕ) → Word following → (k : ℕ) → Word (reg_of st following k)
unfolding reg_in sp_in
reg_fits st r following f k = search (r.words, r, word_either)

pub word_fits : (m : List ℕ) → Bytes m → (a : ℕ) → Word (word_at m a)
word_fits m b a = omega (arith, b a, b (plus a 1))

read_fits : (m : List ℕ) → Bytes m → (w : Width) (a : ℕ) → Word (read_at w m a)
read_fits m b width.Byte a = omega (arith, b a)
read_fits m b width.Word a = word_fits m b a

marked_fits : (right : Right) (e : ℕ) → EntryFits e → EntryFits (marked right e)
marked_fits right e h = let l : Like e (marked right e) = marked_like right e in omega arith

pub mark_ranged : (st : State) (k : ℕ) (right : Right) → Ranged st → Ranged (with_mark st k right)
mark_ranged st k right r =
    let marks = each_set EntryFits st.tlb k _ r.entries (marked_fits right _ (r.entries k)) in
    search (r, r.words, marks)

-- ---- the data access

-- what an operand leads to, `reg` giving the registers
record OperandFits (reg : ℕ → ℕ) (x : Operand) : Type 0 where
  address : Word (address_of reg x)
  load : (a : ℕ) → Word a → NeedFits (load_need reg a x)
  stores : (a : ℕ) → Word a → NeedFits (store_need a x)

module _ (reg : ℕ → ℕ) (regs : (k : ℕ) → Word (reg k)) where
  operand_fits : (mode rx second : ℕ) → Word second → OperandFits reg (operand_of mode rx second)
  unfolding operand_of address_of load_need
  operand_fits mode rx second h =
      let none : Word 0 = omega arith in
      either (OperandFits reg) (eqb mode 0) (λ _. search) (λ _.
      either (OperandFits reg) (eqb mode 1) (λ _. search (wrap_fits)) (λ _.
      either (OperandFits reg) (eqb mode 2) (λ _. search) (λ _.
      either (OperandFits reg) (eqb mode 3) (λ _. search (wrap_fits)) (λ _.
      either (OperandFits reg) (eqb mode 4) (λ _. search) (λ _.
      either (OperandFits reg) (eqb mode 5) (λ _. search (signed4_word)) (λ _.
      either (OperandFits reg) (eqb mode 6) (λ _. search) (λ _.
      either (OperandFits reg) (eqb mode 7) (λ _. search) (λ _. search))))))))

  need_fits :
      (x : DataAccess) (sp flag : ℕ) → Word sp → Word flag → (o : Operand) → OperandFits reg o
      → NeedFits (need_of x reg sp flag (address_of reg o) o)
  unfolding need_of
  need_fits operandAccess.None sp flag s f o h = omega arith
  need_fits operandAccess.Flag sp flag s f o h = f
  need_fits operandAccess.Source sp flag s f o h = h.load _ h.address
  need_fits operandAccess.Destination sp flag s f o h = h.stores _ h.address
  need_fits operandAccess.Push sp flag s f o h = wrap_fits _
  need_fits operandAccess.Pop sp flag s f o h = s
  need_fits operandAccess.PopTwo sp flag s f o h = s

at_fits :
    (x : Result ℕ Fault) (a : ℕ) (done : ℕ → Data) → Word a → ((at : ℕ) → DataFits (done at)) → TransferFits (transfer_at x a done)
at_fits (Ok at) a done w h = h at
at_fits (Err why) a done w h = w

module _ (on : Bool) (m : List ℕ) (b : Bytes m) where
  second_fits : (x : Result ℕ Fault) (tlb : List ℕ) (a : ℕ) → Word a → TransferFits (read_second x on tlb m a).transfer
  second_fits (Ok at) tlb a w =
      at_fits (access_of width.Word on tlb right.Read (plus a 2)).access (plus a 2) _ (wrap_fits _) (λ at'. (word_fits m b at, word_fits m b at', tt))
  second_fits (Err why) tlb a w = w

  transfer_fits :
      (need : Need) → NeedFits need → (tlb : List ℕ) (value : ℕ) → Word value → TransferFits (transfer_of need on tlb m value).transfer
  unfolding transfer_of
  transfer_fits (Value w) h tlb value v = (h, omega arith, tt)
  transfer_fits (Read w a) h tlb value v =
      at_fits (access_of w on tlb right.Read a).access a _ h (λ at. (read_fits m b w at, omega arith, tt))
  transfer_fits (ReadTwo a) h tlb value v =
      let x : Accessed = access_of width.Word on tlb right.Read a in
      second_fits x.access x.tlb a h
  transfer_fits (Write w a) h tlb value v = at_fits (access_of w on tlb right.Write a).access a _ h (λ at. (omega arith, omega arith, v))

-- ---- the end of the plan

module _ (x : Ready) (f : ReadyFits x) (pc : ℕ) (own : Word pc) (jumps : Bool) where
  performs_fits : (to states : ℕ) → Word to → PlanFits (performs x to states)
  performs_fits to states h = record { held = f.held; source = f.source; pc = h; store = f.store }

  end_fits : (way : Flow) → PlanFits (end_of way x pc jumps)
  unfolding end_of
  end_fits flow.Next = performs_fits _ _ f.following
  end_fits flow.Jump = either PlanFits jumps (λ _. performs_fits _ _ f.address) (λ _. performs_fits _ _ f.following)
  end_fits flow.Call = performs_fits _ _ f.address
  end_fits flow.Return = performs_fits _ _ f.source
  end_fits flow.Resume = performs_fits _ _ f.second
  end_fits flow.Trap = (omega arith, f.following)
  end_fits flow.Divide = either PlanFits (eqb x.source 0) (λ _. (omega arith, own)) (λ _. performs_fits _ _ f.following)
  end_fits flow.Shift = performs_fits _ _ f.following

-- ---- the stages

module _ (st : State) (r : Ranged st) where
  planned_fits :
      (x : Result Data mmu.Violation) → TransferFits x → (ins : Instruction) (held address following : ℕ) → Word held → Word address → Word following
      → PlanFits (plan_transfer x st ins held address following)
  planned_fits (Ok d) h ins held address following l a f =
      end_fits _ (record { held = l; address = a; following = f; source = h.0; second = h.1; store = h.2 }) st.pc r.next _ ins.flow
  planned_fits (Err v) h ins held address following l a f = h

  by_operand :
      (m : List ℕ) → Bytes m → (ins : Instruction) (following : ℕ) → Word following → OperandFits (reg_of st following) ins.operand
      → PlanFits (plan_operand st m ins following).plan
  unfolding plan_operand value_stored
  by_operand m b ins following f o =
      let reg : ℕ → ℕ = reg_of st following in
      let regs : (k : ℕ) → Word (reg k) = reg_fits st r following f in
      let flag : Word (flag_of st) = omega (arith, (flag_bits_lem st.flags).0) in
      let value : ℕ = value_stored ins.code (reg ins.rd) following in
      let need : Need = need_of ins.access reg (sp_of st) (flag_of st) (address_of reg ins.operand) ins.operand in
      planned_fits (transfer_of need (translates st) st.tlb m value).transfer
      (transfer_fits (translates st) m b need (need_fits reg regs ins.access _ _ (sp_fits st r) flag ins.operand o) st.tlb value
      (word_either (eqb ins.code CALL) _ _ f (regs ins.rd)))
      ins _ _ following (regs ins.rd) o.address f

pub plan_fits : (st : State) (m : List ℕ) → Ranged st → Bytes m → PlanFits (plan_of st m).plan
plan_fits st m r b =
    plan_by m Ranged (λ (x : Planned). PlanFits x.plan)
    (record {
      fetch = fetch_keeps Ranged mark_ranged;
      interrupt = λ s h. omega (arith, trailing_le 16 s.pending);
      first = λ s h why. h.next;
      second = λ s h why. wrap_fits _;
      undefined = λ s h. (omega arith, h.next);
      denied = λ s h. (omega arith, h.next);
      short = λ s h w shape d e. by_operand s h m b _ _ (wrap_fits _) (operand_fits _ (reg_fits s h _ (wrap_fits _)) _ _ 0 (omega arith));
      long = λ s h w shape d e at. by_operand s h m b _ _ (wrap_fits _) (operand_fits _ (reg_fits s h _ (wrap_fits _)) _ _ _ (word_fits m b at));
    })
    st r
