-- The operation stage: what an instruction does once its operand is known, on hot states.
-- Assumes nothing.
use Rattle.std.specs.Prelude.{Bool, false, true, List, ◌≡◌, ℕ, ◌*◌, ◌+◌, ◌<◌, get_or, length, set, Ok, Option, None, Some}
use Rattle.std.proofs.Math.Path.{ap, refl}
use Rattle.std.proofs.Common.{◌∙◌, arith, ne_eqb, length-set}
use Rattle.decode.specs.Code.{CALL, CMP, JUMP, LD, LDFLAG, NO, POP, PUSH, RET, ST}
use Rattle.decode.specs.Decode.{first_of, has_second, operand_of, rd_bad, rd_field}
use Rattle.decode.specs.Instructions.{RdUse, add_states, condition, div_states, eight, register, row, rows, shift_states, single, unused}
use Rattle.decode.specs.Opcode.{cost_of, in_modes, in_rows, mode_bits, opcode_of, states_at}
use Rattle.decode.specs.declared.DataAccess.{DataAccess}
use Rattle.decode.specs.declared.DataAccess.TheVariants as data-access
use Rattle.decode.specs.declared.Flow.{Flow}
use Rattle.decode.specs.declared.Flow.TheVariants as flow
use Rattle.decode.specs.declared.Instruction.{Instruction}
use Rattle.decode.specs.declared.Operand.{Operand}
use Rattle.decode.specs.declared.Operand.TheVariants as operand
use Rattle.machine.specs.Enter.{Outcome}
use Rattle.machine.specs.Execute.{after_operation, body_of, event_of, with_result}
use Rattle.plan.specs.Result.{alu_of}
use Rattle.machine.specs.Flag.{flag_of}
use Rattle.transfer.specs.Need.{address_of, need_of, value_stored}
use Rattle.machine.specs.Plan.{plan_first, plan_operand, planned, taken, translates}
use Rattle.plan.specs.End.{end_of}
use Rattle.status.specs.Flag.{holds}
use Rattle.machine.specs.Register.{reg_of, sp_of, with_reg}
use Rattle.machine.specs.State.{with_pc}
use Rattle.machine.specs.Step.{commit}
use Rattle.transfer.specs.Transfer.{transfer_of}
use Rattle.plan.specs.declared.Operation.{Operation}
use Rattle.plan.specs.declared.Plan.TheVariants.{Perform}
use Rattle.machine.specs.declared.State.{State}
use Rattle.mmu.specs.Access.{access_of, granted}
use Rattle.memory.specs.Memory.{store_word, stored, word_at, write_at}
use Rattle.mmu.specs.declared.Right.TheVariants.{Read, Write}
use Rattle.memory.specs.declared.Store.{Store}
use Rattle.word.specs.declared.Width.{Width}
use Rattle.word.specs.declared.Width.TheVariants.{Word}
use Rattle.alu.specs.Alu.{places, sub_of}
use Rattle.jump.specs.Jump.{condition_of}
use Rattle.jump.specs.Laws.{undefined_thirteen}
use Rattle.word.specs.Word.{minus, plus, upper}
use Rattle.alu.specs.declared.Alu.{Alu}
use Rattle.refinement.specs.Fetch.{Grants, accessed, carried_out, defined, one_word, readied}
use Rattle.refinement.specs.Statement.{did, hot, hot_state}
use Rattle.refinement.specs.Hot.{reg_hot, sp_hot, sp_with_hot, with_hot}
use Rattle.refinement.specs.Operands.{Addressed, Reached, Sourced}
use Rattle.refinement.specs.Opens.{Opens, opens, opens_compute, opens_load}
use Rattle.source.specs.Rows.{Computes, add, add_cost, adds, and, cmp, div, load_cost, modulo, mul, or, shla, shll, shra, shrl, sub, xor}
use Rattle.hot.specs.Tells.{s_of, z_of}
use Rattle.hot.specs.declared.Hot.{Hot}

-- what becomes of the hot state by the first word w: registers, PC, flags, memory, states
abbrev pub Does : State → List ℕ → Hot → List ℕ → ℕ → List ℕ → ℕ → Bool → Bool → Bool → Bool → List ℕ → ℕ → Type 0
Does b rs h m w rs' pc v c s z m' n = carried_out (plan_first (first_of w) (hot_state b rs h) m) m ≡ did (hot b rs' pc v c s z) m' n

-- the first word w leads with its operand to the instruction
module _ (st : State) (m : List ℕ) (w : ℕ) {byte code mode cost : ℕ} {field : RdUse} {access : DataAccess} {flow : Flow} where
  pub IsEntry :
      Opens byte code mode field access flow cost → upper w ≡ byte → rd_bad field (rd_field w) ≡ false
      → (x : Operand) (next : ℕ) → Reached st m w mode x next
      → plan_first (first_of w) st m
      ≡ plan_operand st m (record { code = code; rd = rd_field w; operand = x; cost = cost; access = access; flow = flow }) next
  IsEntry o e fine x next reached =
      defined st m o.row mode w (rw e o.opcode) (rw o.rd fine) o.privilege
      ∙ reached o.row
      ∙ rw (o.states, o.number, o.accesses, o.flows)

low_register : (n : ℕ) → n < 14 → rd_bad register n ≡ false
low_register n l = ne_eqb n 15 (λ q. omega arith)

some_condition : (w : ℕ) → (rd_field w ≡ 13 → ⊥) → rd_bad condition (rd_field w) ≡ false
some_condition w n = rw (undefined_thirteen (rd_field w) (omega arith), ne_eqb (rd_field w) 13 n)

-- an operation from ADD to SHRL but CMP
module _ (st : State) (m : List ℕ) (rd held source port pc states : ℕ) where
  abbrev op : ℕ → Operation
  op code = record { code = code; rd = rd; held = held; source = source; port = port; pc = pc; states = states; store = None }

  abbrev after : ℕ → Outcome
  after code =
      let r : Alu = alu_of code held source in did (with_reg (with_result (with_pc st pc) r) rd r.value) m states

  carries : {code extra : ℕ} {flow : Flow} → Computes code flow extra → (code ≡ CMP → ⊥) → commit (Perform (op code)) st m ≡ after code
  unfolding commit after_operation body_of event_of stored
  carries add n = refl
  carries sub n = refl
  carries cmp n = absurd (n refl)
  carries and n = refl
  carries or n = refl
  carries xor n = refl
  carries adds n = refl
  carries mul n = refl
  carries div n = refl
  carries modulo n = refl
  carries shla n = refl
  carries shll n = refl
  carries shra n = refl
  carries shrl n = refl

module _ (b : State) (rs : List ℕ) (size : length rs ≡ 16) (h : Hot) (m : List ℕ) (w : ℕ) where
  abbrev st : State
  st = hot_state b rs h

  abbrev rd : ℕ
  rd = rd_field w

  abbrev held : ℕ
  held = get_or rs (rd_field w) 0

  reg : (next n : ℕ) → n < 14 → reg_of st next n ≡ get_or rs n 0
  reg = reg_hot b rs h.pc h.v h.c (s_of h) (z_of h)

  -- ---- with a source

  module _ (low : rd < 14) (mode : ℕ) (below : mode < 8) (x next : ℕ) (s : Sourced st m w mode x next) where
    -- the instruction comes to its end with the source
    ends :
        {byte code cost : ℕ} {f : Flow} → Opens byte code mode register data-access.Source f cost → upper w ≡ byte
        → plan_first (first_of w) st m
        ≡ planned (end_of f (record {
          code = code;
          rd = rd;
          held = reg_of st next rd;
          address = address_of (reg_of st next) s.operand;
          following = next;
          cost = cost;
          source = x;
          second = 0;
          store = None;
        }) h.pc (taken st rd)) st
    unfolding need_of
    ends o e =
        IsEntry st m w o e (low_register rd low) s.operand next s.reached
        ∙ accessed st m _ next x None (s.source _)

    pub load_does : upper w ≡ LD * 8 + mode → Does b rs h m w (set rs rd x) next h.v h.c (s_of h) (z_of h) m (load_cost mode)
    unfolding end_of commit after_operation body_of event_of stored
    load_does e =
        rw (ends (opens_load mode below) e)
        (ap (λ (q : State). did q m (load_cost mode)) (with_hot b rs next h.v h.c (s_of h) (z_of h) size rd x low))

    pub compare_does :
        upper w ≡ CMP * 8 + mode → (r : Alu) → r ≡ sub_of held x
        → Does b rs h m w rs next r.v r.c r.s r.z m (add_cost mode + 0)
    unfolding end_of commit after_operation body_of event_of stored
    compare_does e r q = rw (ends (opens_compute cmp mode below) e, reg next rd low, ← q)

    module _ {code extra : ℕ} (r : Alu) (q : r ≡ alu_of code held x) (not-cmp : code ≡ CMP → ⊥) (e : upper w ≡ code * 8 + mode) where
      done : (port states : ℕ) {f : Flow} → Computes code f extra
          → commit (Perform (op st m rd (reg_of st next rd) x port next states code)) st m
          ≡ did (hot b (set rs rd r.value) next r.v r.c r.s r.z) m states
      done port states c =
          carries st m rd (reg_of st next rd) x port next states c not-cmp
          ∙ rw (reg next rd low, ← q) (ap (λ (y : State). did y m states) (with_hot b rs next r.v r.c r.s r.z size rd r.value low))

      pub next_does : Computes code flow.Next extra → Does b rs h m w (set rs rd r.value) next r.v r.c r.s r.z m (add_cost mode + extra)
      unfolding end_of
      next_does c = ap (λ p. carried_out p m) (ends (opens_compute c mode below) e) ∙ done _ _ c

      pub divide_does : Computes code flow.Divide extra → (x ≡ 0 → ⊥) → Does b rs h m w (set rs rd r.value) next r.v r.c r.s r.z m (add_cost mode + extra)
      unfolding end_of
      divide_does c n = ap (λ p. carried_out p m) (ends (opens_compute c mode below) e) ∙ rw (ne_eqb x 0 n) (done _ _ c)

      pub shift_does : Computes code flow.Shift extra → Does b rs h m w (set rs rd r.value) next r.v r.c r.s r.z m (add_cost mode + extra + places x)
      unfolding end_of
      shift_does c = ap (λ p. carried_out p m) (ends (opens_compute c mode below) e) ∙ done _ _ c

  -- ---- without

  -- the instruction comes to its end, its data access done
  module _ {byte code mode cost : ℕ} {field : RdUse} {access : DataAccess} {f : Flow} (o : Opens byte code mode field access f cost) (e : upper w ≡ byte)
      (fine : rd_bad field (rd_field w) ≡ false) (x : Operand) (next : ℕ) (reached : Reached st m w mode x next) where
    abbrev ins : Instruction
    ins = record { code = code; rd = rd; operand = x; cost = cost; access = access; flow = f }

    finishes :
        (source : ℕ) (s : Option Store)
        → transfer_of (need_of access (reg_of st next) (sp_of st) (flag_of st) (address_of (reg_of st next) x) x) (translates st) st.tlb m (value_stored code (reg_of st next rd) next)
        ≡ record { transfer = Ok (record { source = source; second = 0; store = s }); tlb = st.tlb }
        → plan_first (first_of w) st m ≡ planned (end_of f (readied st ins next source s) h.pc (taken st rd)) st
    finishes source s t = IsEntry st m w o e fine x next reached ∙ accessed st m ins next source s t

  module _ {byte mode cost a next : ℕ} {width : Width} (e : upper w ≡ byte) (p : Addressed st m w mode a next width) where
    module _ (o : Opens byte JUMP mode condition data-access.None flow.Jump cost) (n : rd ≡ 13 → ⊥) where
      pub jump_does : holds (condition_of rd h.v h.c (s_of h) (z_of h)) ≡ true → Does b rs h m w rs a h.v h.c (s_of h) (z_of h) m (cost + 1)
      unfolding need_of transfer_of end_of commit after_operation body_of event_of stored
      jump_does t = rw (finishes o e (some_condition w n) p.operand next p.reached 0 None refl, t, p.address)

      pub pass_does : holds (condition_of rd h.v h.c (s_of h) (z_of h)) ≡ false → Does b rs h m w rs next h.v h.c (s_of h) (z_of h) m cost
      unfolding need_of transfer_of end_of commit after_operation body_of event_of stored
      pass_does t = rw (finishes o e (some_condition w n) p.operand next p.reached 0 None refl, t)

    pub call_does :
        Opens byte CALL mode unused data-access.Push flow.Call cost → (sp at : ℕ) → sp ≡ minus (get_or rs 13 0) 2 → Grants b Write sp at
        → Does b rs h m w (set rs 13 sp) a h.v h.c (s_of h) (z_of h) (store_word m at next) cost
    unfolding need_of value_stored transfer_of end_of commit after_operation body_of event_of stored
    call_does o sp at q g =
        rw (
          finishes o e refl p.operand next p.reached 0 (Some (record { width = Word; address = at; value = next }))
              (rw (sp_hot b rs h.pc h.v h.c (s_of h) (z_of h), ← q, g)),
          p.address,
          sp_hot b rs a h.v h.c (s_of h) (z_of h),
          ← q,
        )
        (ap (λ (y : State). did y (store_word m at next) cost) (sp_with_hot b rs a h.v h.c (s_of h) (z_of h) size sp))

  module _ {byte mode cost a next : ℕ} (low : rd < 14) (e : upper w ≡ byte) (o : Opens byte ST mode register data-access.Destination flow.Next cost) where
    pub store_does :
        (width : Width) → Addressed st m w mode a next width → (at : ℕ) → access_of width (translates b) b.tlb Write a ≡ granted at b.tlb
        → Does b rs h m w rs next h.v h.c (s_of h) (z_of h) (write_at width m at held) cost
    unfolding need_of value_stored transfer_of end_of commit after_operation body_of event_of stored
    store_does width p at g =
        rw (finishes o e (low_register rd low) p.operand next p.reached 0 (Some (record { width = width; address = at; value = held })) (rw (p.wide, p.address, g, reg next rd low)))

  -- ---- single bytes

  module _ (next : ℕ) (n : next ≡ plus h.pc 2) where
    alone : Reached st m w 8 operand.Nothing next
    unfolding has_second operand_of
    alone r = one_word st m r 8 w refl ∙ rw n

    pub no_does : upper w ≡ NO * 8 → Does b rs h m w rs next h.v h.c (s_of h) (z_of h) m 3
    unfolding opcode_of in_rows in_modes mode_bits rows row eight single add_states div_states shift_states cost_of states_at need_of transfer_of end_of commit after_operation body_of event_of stored
    no_does e =
        rw (finishes {code = NO} {cost = 3} {access = data-access.None} {f = flow.Next} (opens _ refl refl) e refl
        operand.Nothing next alone 0 None refl)

    pub flag_does :
        upper w ≡ ST * 8 + 4 → rd < 14 → (x : ℕ) → x ≡ flag_of st → Does b rs h m w (set rs rd x) next h.v h.c (s_of h) (z_of h) m 4
    unfolding opcode_of in_rows in_modes mode_bits rows row eight single add_states div_states shift_states cost_of states_at need_of transfer_of end_of commit after_operation body_of event_of stored
    flag_does e low x q =
        rw (finishes {code = LDFLAG} {cost = 4} {access = data-access.Flag} {f = flow.Next} (opens _ refl refl) e (low_register rd low)
        operand.Nothing next alone x None (rw q))
        (ap (λ (y : State). did y m 4) (with_hot b rs next h.v h.c (s_of h) (z_of h) size rd x low))

    pub push_does :
        upper w ≡ PUSH * 8 → rd < 14 → (sp at : ℕ) → sp ≡ minus (get_or rs 13 0) 2 → Grants b Write sp at
        → Does b rs h m w (set rs 13 sp) next h.v h.c (s_of h) (z_of h) (store_word m at held) 5
    unfolding opcode_of in_rows in_modes mode_bits rows row eight single add_states div_states
        shift_states cost_of states_at need_of value_stored transfer_of end_of commit after_operation body_of event_of stored
    push_does e low sp at q g =
        rw (
          finishes {code = PUSH} {cost = 5} {access = data-access.Push} {f = flow.Next} (opens _ refl refl) e (low_register rd low)
              operand.Nothing next alone 0 (Some (record { width = Word; address = at; value = held })) (rw (sp_hot b rs h.pc h.v h.c (s_of h) (z_of h), ← q, g, reg next rd low)),
          sp_hot b rs next h.v
              h.c (s_of h) (z_of h),
          ← q,
        )
        (ap (λ (y : State). did y (store_word m at held) 5) (sp_with_hot b rs next h.v h.c (s_of h) (z_of h) size sp))

    pub pop_does :
        upper w ≡ PUSH * 8 + 4 → rd < 14 → (at sp x : ℕ) → Grants b Read (get_or rs 13 0) at → x ≡ word_at m at → sp ≡ plus (get_or rs 13 0) 2
        → Does b rs h m w (set (set rs 13 sp) rd x) next h.v h.c (s_of h) (z_of h) m 6
    unfolding opcode_of in_rows in_modes mode_bits rows row eight single add_states div_states
        shift_states cost_of states_at need_of value_stored transfer_of end_of commit after_operation body_of event_of stored
    pop_does e low at sp x g q k =
        rw (
          finishes {code = POP} {cost = 6} {access = data-access.Pop} {f = flow.Next} (opens _ refl refl) e (low_register rd low)
              operand.Nothing next alone x None (rw (sp_hot b rs h.pc h.v h.c (s_of h) (z_of h), g, q)),
          sp_hot b rs next h.v h.c (s_of h) (z_of h),
          ← k,
        )
        (ap (λ (y : State). did y m 6) (ap (λ (y : State). with_reg y rd x) (sp_with_hot b rs next h.v h.c (s_of h) (z_of h) size sp) ∙ with_hot b
        (set rs 13 sp) next h.v h.c (s_of h) (z_of h) (length-set rs 13 sp ∙ size) rd x low))

    pub ret_does :
        upper w ≡ RET * 8 → (at sp x : ℕ) → Grants b Read (get_or rs 13 0) at → x ≡ word_at m at → sp ≡ plus (get_or rs 13 0) 2
        → Does b rs h m w (set rs 13 sp) x h.v h.c (s_of h) (z_of h) m 6
    unfolding opcode_of in_rows in_modes mode_bits rows row eight single add_states div_states
        shift_states cost_of states_at need_of value_stored transfer_of end_of commit after_operation body_of event_of stored
    ret_does e at sp x g q k =
        rw (
          finishes {code = RET} {cost = 6} {access = data-access.Pop} {f = flow.Return} (opens _ refl refl) e refl operand.Nothing
              next alone x None (rw (sp_hot b rs h.pc h.v h.c (s_of h) (z_of h), g, q)),
          sp_hot b rs x h.v h.c (s_of h) (z_of h),
          ← k,
        )
        (ap (λ (y : State). did y m 6) (sp_with_hot b rs x h.v h.c (s_of h) (z_of h) size sp))
