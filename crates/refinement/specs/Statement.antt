-- What it means that a plain instruction is the machine's: on a state whose registers, PC and arithmetic flags stand beside it, a step of the machine
-- leaves such a state, with what the instruction has made of them.
-- Assumes nothing.
use Rattle.std.specs.Prelude.{Bool, false, List, ◌≡◌, ℕ, get_or, take}
use Rattle.machine.specs.Enter.{Outcome}
use Rattle.machine.specs.Plan.{interrupted, translates}
use Rattle.machine.specs.Register.{ssp_with, usp_with}
use Rattle.machine.specs.Step.{step_of}
use Rattle.machine.specs.declared.Event.TheVariants.{Executed}
use Rattle.machine.specs.declared.State.{State}
use Rattle.mmu.specs.declared.Right.TheVariants.{Execute}
use Rattle.pages.specs.Accesses.{Reads}
use Rattle.pages.specs.Maps.{Mapped}
use Rattle.word.specs.declared.Width.TheVariants.{Word}
use Rattle.hot.specs.Conditions.{top_of}
use Rattle.hot.specs.Tells.{Told, s_of, z_of}
use Rattle.hot.specs.declared.Hot.{Hot}

-- ---- the correspondence

-- the state b with these registers, PC and arithmetic flags: register n below 14 is the n-th of a list of 16, SP the 13th
abbrev pub hot : State → List ℕ → ℕ → Bool → Bool → Bool → Bool → State
hot b rs pc v c s z =
    record {
      regs = take 13 rs;
      ssp = ssp_with b.flags.p b.ssp (get_or rs 13 0);
      usp = usp_with b.flags.p b.usp (get_or rs 13 0);
      pc = pc;
      flags = record { e = b.flags.e; p = b.flags.p; i = b.flags.i; v = v; c = c; s = s; z = z };
      pending = b.pending;
      ports = b.ports;
      mmu = b.mmu;
      condition = b.condition;
      fault = b.fault;
      tlb = b.tlb;
      timers = b.timers;
    }

-- the same, with what `Hot` has of them
abbrev pub hot_state : State → List ℕ → Hot → State
hot_state b rs h = hot b rs h.pc h.v h.c (s_of h) (z_of h)

-- the map is one of the state's pages
abbrev pub MapOf : State → List ℕ → Type 0
MapOf st map = Mapped (translates st) st.tlb map

-- an instruction was carried out in n states
abbrev pub did : State → List ℕ → ℕ → Outcome
did st m n = record { state = st; memory = m; event = Executed n }

-- ---- the theorem

-- `carried`: an instruction that is carried out as `low` and `high` of dispatch promise (`Told`, `top` being E, P and I in their places in FLAG), its first
-- word w being the one that the map gives at PC, is the machine's step on every state with this map in which no interrupt is due: the same registers, PC,
-- flags, memory and states, and nothing else changes
abbrev pub InstructionIsStep : Type 0
InstructionIsStep =
    (b : State) (top : ℕ) (map rs m : List ℕ) (h : Hot) (w : ℕ) (rs' m' : List ℕ) (r : Hot) → interrupted b ≡ false → MapOf b map
    → top ≡ top_of b.flags → Reads map m Execute Word h.pc w → Told top map rs m h w rs' m' r → (r.cost ≡ 0 → ⊥)
    → step_of (hot_state b rs h) m ≡ did (hot_state b rs' r) m' r.cost
