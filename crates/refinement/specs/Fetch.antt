-- The stages of a step whose accesses are granted and leave the TLB as it is: the first word, the second word, the operand, the end.
-- Assumes nothing.
use Rattle.std.specs.Prelude.{false, true, List, ◌≡◌, ℕ, Ok, Option}
use Rattle.decode.specs.Decode.{first_of, has_second, operand_of, rd_bad, rd_field, rx_field, shape_of}
use Rattle.decode.specs.Instructions.{Row}
use Rattle.decode.specs.Opcode.{cost_of, known, opcode_of}
use Rattle.decode.specs.declared.Instruction.{Instruction}
use Rattle.decode.specs.declared.Operand.{Operand}
use Rattle.decode.specs.declared.Privilege.TheVariants.{Anyone}
use Rattle.machine.specs.Enter.{Outcome}
use Rattle.machine.specs.Flag.{flag_of}
use Rattle.transfer.specs.Need.{address_of, need_of, value_stored}
use Rattle.machine.specs.Plan.{interrupted, plan_fetch, plan_first, plan_of, plan_operand, plan_second, planned, taken, translates}
use Rattle.plan.specs.End.{end_of}
use Rattle.machine.specs.Register.{reg_of, sp_of}
use Rattle.machine.specs.Step.{commit, step_of}
use Rattle.transfer.specs.Transfer.{transfer_of}
use Rattle.plan.specs.declared.Ready.{Ready}
use Rattle.machine.specs.declared.Planned.{Planned}
use Rattle.machine.specs.declared.State.{State}
use Rattle.mmu.specs.Access.{access_of, granted}
use Rattle.memory.specs.Memory.{word_at}
use Rattle.mmu.specs.declared.Right.{Right}
use Rattle.mmu.specs.declared.Right.TheVariants.{Execute}
use Rattle.memory.specs.declared.Store.{Store}
use Rattle.word.specs.Word.{plus, upper}
use Rattle.word.specs.declared.Width.TheVariants.{Word}

-- a plan is carried out
abbrev pub carried_out : Planned → List ℕ → Outcome
carried_out p m = commit p.plan p.state m

-- an access to a word that is granted at a physical address and leaves the TLB as it is
abbrev pub Grants : State → Right → ℕ → ℕ → Type 0
Grants st right a at = access_of Word (translates st) st.tlb right a ≡ granted at st.tlb

-- the instruction of a row in a mode, with an operand
abbrev pub instruction : Row → ℕ → ℕ → Operand → Instruction
instruction r mode w x =
    record { code = r.code; rd = rd_field w; operand = x; cost = cost_of r mode; access = r.access; flow = r.flow }

-- the same before its last tests, its data access done
abbrev pub readied : State → Instruction → ℕ → ℕ → Option Store → Ready
readied st ins following source store =
    record {
      code = ins.code;
      rd = ins.rd;
      held = reg_of st following ins.rd;
      address = address_of (reg_of st following) ins.operand;
      following = following;
      cost = ins.cost;
      source = source;
      second = 0;
      store = store;
    }

module _ (st : State) (m : List ℕ) where
  -- the word w is fetched
  pub begins :
      (at w : ℕ) → interrupted st ≡ false → Grants st Execute st.pc at → w ≡ word_at m at
      → step_of st m ≡ carried_out (plan_first (first_of w) st m) m
  unfolding step_of plan_of plan_fetch
  begins at w calm fetch read = rw (calm, fetch, ← read)

  -- it is an instruction that anyone may use
  pub defined :
      (r : Row) (mode w : ℕ) → opcode_of (upper w) ≡ known r mode → rd_bad r.rd (rd_field w) ≡ false
      → r.privilege ≡ Anyone → plan_first (first_of w) st m ≡ plan_second st m (shape_of r mode w)
  unfolding plan_first first_of
  defined r mode w e fine p = rw (e, fine, p)

  pub one_word :
      (r : Row) (mode w : ℕ) → has_second mode ≡ false
      → plan_second st m (shape_of r mode w) ≡ plan_operand st m (instruction r mode w (operand_of mode (rx_field w) 0)) (plus st.pc 2)
  unfolding plan_second
  one_word r mode w e = rw e

  pub two_words :
      (r : Row) (mode w at : ℕ) → has_second mode ≡ true → Grants st Execute (plus st.pc 2) at
      → plan_second st m (shape_of r mode w) ≡ plan_operand st m (instruction r mode w (operand_of mode (rx_field w) (word_at m at))) (plus st.pc 4)
  unfolding plan_second
  two_words r mode w at e g = rw (e, g)

  -- the data access is done
  pub accessed :
      (ins : Instruction) (following source : ℕ) (store : Option Store)
      → transfer_of
      (need_of ins.access (reg_of st following) (sp_of st) (flag_of st) (address_of (reg_of st following) ins.operand) ins.operand) (translates st)
      st.tlb m (value_stored ins.code (reg_of st following ins.rd) following)
      ≡ record { transfer = Ok (record { source = source; second = 0; store = store }); tlb = st.tlb }
      → plan_operand st m ins following ≡ planned (end_of ins.flow (readied st ins following source store) st.pc (taken st ins.rd)) st
  unfolding plan_operand
  accessed ins following source store e = rw e
