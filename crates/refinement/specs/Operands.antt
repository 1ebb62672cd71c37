-- The operand stage: what each mode names, whatever the instruction.
-- Assumes nothing.
use Rattle.std.specs.Prelude.{List, ◌≡◌, ℕ, ◌*ℤ◌, Ok}
use Rattle.std.proofs.Math.Path.{refl}
use Rattle.std.proofs.Common.{◌∙◌}
use Rattle.std.proofs.Math.IntN.{pos}
use Rattle.decode.specs.Decode.{has_second, operand_of, rx_field, shape_of}
use Rattle.decode.specs.Instructions.{Row}
use Rattle.decode.specs.declared.Operand.{Operand}
use Rattle.decode.specs.declared.Operand.TheVariants as operand
use Rattle.transfer.specs.Need.{address_of, load_need, width_of}
use Rattle.machine.specs.Plan.{plan_operand, plan_second, translates}
use Rattle.machine.specs.Register.{reg_of}
use Rattle.transfer.specs.Transfer.{loaded, transfer_of}
use Rattle.transfer.specs.declared.Need.TheVariants as need
use Rattle.machine.specs.declared.State.{State}
use Rattle.mmu.specs.Access.{access_of, granted}
use Rattle.memory.specs.Memory.{read_at, word_at}
use Rattle.mmu.specs.declared.Right.TheVariants.{Execute, Read}
use Rattle.word.specs.declared.Width.{Width}
use Rattle.word.specs.declared.Width.TheVariants.{Byte, Word}
use Rattle.word.specs.Signed.{signed4, word}
use Rattle.word.specs.Word.{plus}
use Rattle.refinement.specs.Fetch.{Grants, instruction, one_word, two_words}

-- a second word that is fetched
pub record Second (st : State) (m : List ℕ) (x : ℕ) : Type 0 where
  pub at : ℕ
  pub grants : Grants st Execute (plus st.pc 2) at
  pub value : x ≡ word_at m at

-- the step is with the operand, and the address of the following instruction is `next`
abbrev pub Reached : State → List ℕ → ℕ → ℕ → Operand → ℕ → Type 0
Reached st m w mode x next = (r : Row) → plan_second st m (shape_of r mode w) ≡ plan_operand st m (instruction r mode w x) next

-- an operand with an address
pub record Addressed (st : State) (m : List ℕ) (w mode a next : ℕ) (width : Width) : Type 0 where
  pub operand : Operand
  pub reached : Reached st m w mode operand next
  pub address : address_of (reg_of st next) operand ≡ a
  pub loads : (reg : ℕ → ℕ) (a : ℕ) → load_need reg a operand ≡ need.Read width a
  pub wide : width_of operand ≡ width

-- an operand whose value is x
pub record Sourced (st : State) (m : List ℕ) (w mode x next : ℕ) : Type 0 where
  pub operand : Operand
  pub reached : Reached st m w mode operand next
  pub source :
      (value : ℕ)
      → transfer_of (load_need (reg_of st next) (address_of (reg_of st next) operand) operand) (translates st) st.tlb m value
      ≡ record { transfer = Ok (loaded x); tlb = st.tlb }

module _ (st : State) (m : List ℕ) (w : ℕ) where
  -- ---- addresses

  pub direct : (d next : ℕ) → Second st m d → next ≡ plus st.pc 4 → Addressed st m w 0 d next Word
  unfolding has_second operand_of address_of load_need
  direct d next s n =
      record {
        operand = operand.Direct d;
        reached = λ r. two_words st m r 0 w s.at refl s.grants ∙ rw (s.value, n);
        address = refl;
        loads = λ reg a. refl;
        wide = refl;
      }

  pub indexed :
      (d x a next : ℕ) → Second st m d → x ≡ reg_of st next (rx_field w) → a ≡ plus d x → next ≡ plus st.pc 4
      → Addressed st m w 1 a next Word
  unfolding has_second operand_of address_of load_need
  indexed d x a next s e f n =
      record {
        operand = operand.Indexed d (rx_field w);
        reached = λ r. two_words st m r 1 w s.at refl s.grants ∙ rw (s.value, n);
        address = rw (f, e);
        loads = λ reg a. refl;
        wide = refl;
      }

  pub framed : (a next : ℕ) → a ≡ plus (reg_of st next 12) (word (signed4 (rx_field w) *ℤ pos 2)) → next ≡ plus st.pc 2 → Addressed st m w 3 a next Word
  unfolding has_second operand_of address_of load_need
  framed a next e n =
      record {
        operand = operand.Frame (signed4 (rx_field w) *ℤ pos 2);
        reached = λ r. one_word st m r 3 w refl ∙ rw n;
        address = rw e;
        loads = λ reg a. refl;
        wide = refl;
      }

  pub indirect : (a next : ℕ) → a ≡ reg_of st next (rx_field w) → next ≡ plus st.pc 2 → Addressed st m w 6 a next Word
  unfolding has_second operand_of address_of load_need
  indirect a next e n =
      record {
        operand = operand.Indirect (rx_field w);
        reached = λ r. one_word st m r 6 w refl ∙ rw n;
        address = rw e;
        loads = λ reg a. refl;
        wide = refl;
      }

  pub byte_indirect : (a next : ℕ) → a ≡ reg_of st next (rx_field w) → next ≡ plus st.pc 2 → Addressed st m w 7 a next Byte
  unfolding has_second operand_of address_of load_need
  byte_indirect a next e n =
      record {
        operand = operand.ByteIndirect (rx_field w);
        reached = λ r. one_word st m r 7 w refl ∙ rw n;
        address = rw e;
        loads = λ reg a. refl;
        wide = refl;
      }

  -- ---- values

  pub immediate : (d next : ℕ) → Second st m d → next ≡ plus st.pc 4 → Sourced st m w 2 d next
  unfolding has_second operand_of load_need transfer_of
  immediate d next s n =
      record {
        operand = operand.Immediate d;
        reached = λ r. two_words st m r 2 w s.at refl s.grants ∙ rw (s.value, n);
        source = λ value. refl;
      }

  pub register : (x next : ℕ) → x ≡ reg_of st next (rx_field w) → next ≡ plus st.pc 2 → Sourced st m w 4 x next
  unfolding has_second operand_of load_need transfer_of
  register x next e n =
      record {
        operand = operand.Register (rx_field w);
        reached = λ r. one_word st m r 4 w refl ∙ rw n;
        source = λ value. rw e;
      }

  pub short : (x next : ℕ) → x ≡ word (signed4 (rx_field w)) → next ≡ plus st.pc 2 → Sourced st m w 5 x next
  unfolding has_second operand_of load_need transfer_of
  short x next e n =
      record {
        operand = operand.Short (signed4 (rx_field w));
        reached = λ r. one_word st m r 5 w refl ∙ rw n;
        source = λ value. rw e;
      }

  pub memory_read :
      (width : Width) (mode a x next at : ℕ) → Addressed st m w mode a next width
      → access_of width (translates st) st.tlb Read a ≡ granted at st.tlb → x ≡ read_at width m at → Sourced st m w mode x next
  unfolding transfer_of
  memory_read width mode a x next at p g e =
      record { operand = p.operand; reached = p.reached; source = λ value. rw (p.loads, p.address, g, e) }
