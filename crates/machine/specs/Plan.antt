-- What a step is going to do: all that reads memory before a store or a kernel entry. Document 01, "Faults in order": "Interrupt
-- first ... Else: fetch, undefined (14), privilege (13), second word, operand access, zero divisor (12)." The state goes through the
-- stages with the TLB as the accesses leave it, and nothing else of it changes.
-- Assumes nothing.
use Rattle.std.specs.Prelude.{Bool, cond, not, ◌&&◌, List, Option, None, Some, Result, Ok, Err, ℕ}
use Rattle.decode.specs.Decode.{first_of, instruction_of}
use Rattle.decode.specs.declared.Instruction.{Instruction}
use Rattle.decode.specs.declared.Privilege.{Privilege}
use Rattle.decode.specs.declared.Shape.{Shape}
use Rattle.memory.specs.Memory.{word_at}
use Rattle.mmu.specs.Access.{violation}
use Rattle.mmu.specs.declared.Accessed.{Accessed}
use Rattle.mmu.specs.declared.Fault.{Fault}
use Rattle.mmu.specs.declared.Violation as mmu
use Rattle.plan.specs.End.{end_of}
use Rattle.transfer.specs.Need.{address_of, need_of, value_stored}
use Rattle.transfer.specs.Transfer.{fetch_of, transfer_of}
use Rattle.status.specs.Flag.{permitted_in, taken_on}
use Rattle.status.specs.Pending.{interrupt_in, lowest_line}
use Rattle.word.specs.Word.{plus}
use Rattle.machine.specs.Flag.{flag_of}
use Rattle.machine.specs.Register.{reg_of, sp_of}
use Rattle.machine.specs.State.{with_tlb}
use Rattle.transfer.specs.declared.Need.{Need}
use Rattle.plan.specs.declared.Plan.{Plan}
use Rattle.plan.specs.declared.Plan.TheVariants.{Interrupt, Trap, Violation}
use Rattle.plan.specs.declared.Trap.TheVariants as trap
use Rattle.machine.specs.declared.Planned.{Planned}
use Rattle.machine.specs.declared.State.{State}
use Rattle.transfer.specs.declared.Data.{Data}
use Rattle.transfer.specs.declared.Transferred.{Transferred}

abbrev pub planned : Plan → State → Planned
planned p st = record { plan = p; state = st }

-- "It translates if it is on and P=0."
abbrev pub translates : State → Bool
translates st = st.mmu && not st.flags.p

-- the kernel is entered for the logical address `a`
abbrev pub violated : Fault → ℕ → State → Planned
violated why a st = planned (Violation (violation why a)) st

-- Go on with the physical address, or enter the kernel for the logical address `a`.
abbrev pub through_access : Result ℕ Fault → State → ℕ → (ℕ → Planned) → Planned
through_access (Ok at) st a goOn = goOn at
through_access (Err why) st a goOn = violated why a st

-- the fetch of a word
abbrev pub fetched : State → ℕ → Accessed
fetched st a = fetch_of (translates st) st.tlb a

-- the state after an access
abbrev pub after : State → Accessed → State
after st x = with_tlb st x.tlb

-- an interrupt is due
abbrev pub interrupted : State → Bool
interrupted st = interrupt_in st.flags.e st.pending

-- a jump is taken, by the condition of this number
abbrev pub taken : State → ℕ → Bool
taken st rd = taken_on rd st.flags.v st.flags.c st.flags.s st.flags.z

-- the transfer was done, or the kernel is entered
abbrev pub plan_transfer : Result Data mmu.Violation → State → Instruction → ℕ → ℕ → ℕ → Plan
plan_transfer (Ok done) st ins held address following =
    end_of ins.flow
    (record {
      code = ins.code;
      rd = ins.rd;
      held = held;
      address = address;
      following = following;
      cost = ins.cost;
      source = done.source;
      second = done.second;
      store = done.store;
    })
    st.pc
    (taken st ins.rd)
plan_transfer (Err v) st ins held address following = Violation v

-- "operand access"
unfoldable pub plan_operand : State → List ℕ → Instruction → ℕ → Planned
plan_operand st m ins following =
    let held : ℕ = reg_of st following ins.rd in
    let address : ℕ = address_of (reg_of st following) ins.operand in
    let need : Need = need_of ins.access (reg_of st following) (sp_of st) (flag_of st) address ins.operand in
    let t : Transferred = transfer_of need (translates st) st.tlb m (value_stored ins.code held following) in
    planned (plan_transfer t.transfer st ins held address following) (with_tlb st t.tlb)

-- "second word": an instruction without one goes on at once. The following address is PC + 2, or "counting the second word" (document 02, 4/14) PC + 4.
unfoldable pub plan_second : State → List ℕ → Shape → Planned
plan_second st m shape =
    cond shape.second
    (let a : ℕ = plus st.pc 2 in
    let x : Accessed = fetched st a in
    through_access x.access (after st x) a
    (λ (at : ℕ). plan_operand (after st x) m (instruction_of shape (word_at m at)) (plus st.pc 4)))
    (plan_operand st m (instruction_of shape 0) (plus st.pc 2))

abbrev pub permitted : State → Privilege → Bool
permitted st privilege = permitted_in privilege st.flags.p st.flags.i

-- "undefined (14), privilege (13)"
unfoldable pub plan_first : Option Shape → State → List ℕ → Planned
plan_first None st m = planned (Trap trap.Undefined st.pc) st
plan_first (Some shape) st m =
    cond (permitted st shape.privilege) (plan_second st m shape) (planned (Trap trap.NotPermitted st.pc) st)

-- "fetch"
unfoldable pub plan_fetch : State → List ℕ → Planned
plan_fetch st m =
    let x : Accessed = fetched st st.pc in
    through_access x.access (after st x) st.pc (λ (at : ℕ). plan_first (first_of (word_at m at)) (after st x) m)

-- "Interrupt first: ... the lowest is cleared and entered as a step of its own."
unfoldable pub plan_of : State → List ℕ → Planned
plan_of st m = cond (interrupted st) (planned (Interrupt (lowest_line st.pending)) st) (plan_fetch st m)
