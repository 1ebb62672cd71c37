-- What a step in user mode may write and keeps, `Integrity`, and what it may depend on, `Confidentiality`. Demand 3 rests on both.
-- Assumes nothing.
use Rattle.std.specs.Prelude.{Bool, false, true, List, ◌≡◌, ℕ, get_or, length}
use Rattle.machine.specs.Enter.{Outcome}
use Rattle.machine.specs.Step.{step_of}
use Rattle.machine.specs.declared.Condition.{Condition}
use Rattle.machine.specs.declared.Condition.TheVariants as condition
use Rattle.machine.specs.declared.Ending.{Ending}
use Rattle.machine.specs.declared.Ending.TheVariants as ending
use Rattle.machine.specs.declared.Event.{Event}
use Rattle.machine.specs.declared.Event.TheVariants as event
use Rattle.machine.specs.declared.State.{State}
use Rattle.mmu.specs.declared.Right.{Right}
use Rattle.word.specs.Word.{minus}
use Rattle.isolation.specs.Statement.{Alike, Spared, UserMode, AtHandler, but_handler, has_right}

-- the second TLB gives each frame the rights that the first gives it
abbrev pub SameRights : List ℕ → List ℕ → Type 0
SameRights tlb tlb' = (right : Right) (frame : ℕ) → has_right tlb' right frame ≡ has_right tlb right frame

-- how a run ends that ends after a step
abbrev pub ending_of : Event → Ending
ending_of (event.Executed cost) = ending.Spent
ending_of (event.Entered number pc flag) = ending.Entered number pc flag
ending_of event.Halted = ending.Halted
ending_of event.Lost = ending.Lost

-- ---- integrity: what a step in user mode may write, and what it keeps

-- P, SSP and the condition are these; I, the MMU and the rights that the TLB gives are as they were
pub record Keeps (st : State) (p : Bool) (ssp : ℕ) (c : Condition) (s : State) : Type 0 where
  pub privilege : s.flags.p ≡ p
  pub stack : s.ssp ≡ ssp
  pub condition : s.condition ≡ c
  pub ports : s.flags.i ≡ st.flags.i
  pub mmu : s.mmu ≡ st.mmu
  pub rights : SameRights st.tlb s.tlb

-- an instruction keeps all of it, a loss all but the condition; a program never halts the machine
abbrev pub KeepsBy : Event → State → State → Type 0
KeepsBy (event.Executed cost) st s = Keeps st false st.ssp st.condition s
KeepsBy (event.Entered number pc flag) st s = Keeps st true (minus st.ssp 4) st.condition s
KeepsBy event.Halted st s = ⊥
KeepsBy event.Lost st s = Keeps st false st.ssp condition.Lost s

pub record Confined (st : State) (m : List ℕ) (o : Outcome) : Type 0 where
  pub long : length o.memory ≡ length m
  pub spared : Spared st (ending_of o.event) m o.memory
  pub kept : KeepsBy o.event st o.state

abbrev pub Integrity : Type 0
Integrity = (st : State) (m : List ℕ) → UserMode st → Confined st m (step_of st m)

-- ---- confidentiality: what a step in user mode may depend on

-- what two steps share that start in one state, on two memories
pub record Indistinct (m m' : List ℕ) (o o' : Outcome) : Type 0 where
  pub told : o.event ≡ o'.event
  pub state : but_handler (ending_of o.event) o.state ≡ but_handler (ending_of o'.event) o'.state
  pub handler : AtHandler (ending_of o.event) o.state o.memory
  pub handler' : AtHandler (ending_of o'.event) o'.state o'.memory
  pub memory : (a : ℕ) → get_or m a 0 ≡ get_or m' a 0 → get_or o.memory a 0 ≡ get_or o'.memory a 0

abbrev pub Confidentiality : Type 0
Confidentiality = (st : State) (m m' : List ℕ) → UserMode st → Alike st.tlb m m' → Indistinct m m' (step_of st m) (step_of st m')
