-- Worked examples: how a row is written, and the starred examples of document 01, "Bench examples".
-- Assumes nothing.
use Rattle.std.specs.Prelude.{List, [], ◌∷◌, ◌++◌, suc, zero, ℕ, ◌*◌, ◌+◌, replicate, set}
use Rattle.image.specs.Decode.{condition_from}
use Rattle.machine.specs.Enter.{Outcome}
use Rattle.status.specs.Flag.{flags_from}
use Rattle.machine.specs.Step.{step_of}
use Rattle.machine.specs.declared.Event.{Event}
use Rattle.machine.specs.declared.Event.TheVariants.{Entered, Executed}
use Rattle.machine.specs.declared.State.{State}
use Rattle.word.specs.Word.{is_set, lower, upper}
use Rattle.worked.specs.Fields.{CAUSE, CONDITION, ENTRY, FLAG, FP, G0, G1, INPUT, MISSED, MMU, OUTPUT, PC, PENDING, SSP, USP, VIOLATION}
use Rattle.worked.specs.Fields.{CONTROL0, CONTROL1, COUNT0, COUNT1, FIRED0, FIRED1, PERIOD0, PERIOD1, Setting, value_of, values_of, ◌≔◌}

-- ---- a row

-- the state with these values, and 0 in every other field
unfoldable pub state_of : List Setting → State
state_of xs =
    record {
      regs = values_of xs 0 13;
      ssp = value_of xs SSP;
      usp = value_of xs USP;
      pc = value_of xs PC;
      flags = flags_from (value_of xs FLAG);
      pending = value_of xs PENDING;
      ports = record { input = value_of xs INPUT; output = value_of xs OUTPUT };
      mmu = is_set 0 (value_of xs MMU);
      condition = condition_from (value_of xs CONDITION);
      fault = record { violation = value_of xs VIOLATION; cause = value_of xs CAUSE; missed = value_of xs MISSED };
      tlb = values_of xs ENTRY 8;
      timers =
          record {
            timer0 = record { count = value_of xs COUNT0; period = value_of xs PERIOD0; control = value_of xs CONTROL0; fired = is_set 0 (value_of xs FIRED0) };
            timer1 = record { count = value_of xs COUNT1; period = value_of xs PERIOD1; control = value_of xs CONTROL1; fired = is_set 0 (value_of xs FIRED1) };
          };
    }

-- the vectors of `n` numbers from `k` on: that of k holds 2000h + 10h × k
unfoldable pub vectors_from : ℕ → ℕ → List ℕ
vectors_from k zero = []
vectors_from k (suc n) = 0x20 ∷ k * 0x10 ∷ vectors_from (k + 1) n

-- The 65,536 bytes with these words, the vectors at FFE0h, and 0 everywhere else. Of two words for one address the first counts.
unfoldable pub memory_of : List Setting → List ℕ
memory_of [] = replicate 0xffe0 0 ++ vectors_from 0 16
memory_of (a ≔ w ∷ xs) = set (set (memory_of xs) a (upper w)) (suc a) (lower w)

-- A row: the state and the memory before a step, what the step changes in them, and what it did: an instruction with its states
-- (`Executed 4`), or an entry with its number and the PC and FLAG that it saves (`Entered 11 0x10 0x0f`), or `Halted`, or `Lost`. What
-- `changes` and `writes` do not name is as before.
pub record Row : Type 0 where
  pub state : List Setting
  pub memory : List Setting
  pub changes : List Setting
  pub writes : List Setting
  pub event : Event

abbrev pub row : List Setting → List Setting → List Setting → List Setting → Event → Row
row state memory changes writes event =
    record { state = state; memory = memory; changes = changes; writes = writes; event = event }

-- the step, and what the row says of it
abbrev pub stepped : Row → Outcome
stepped r = step_of (state_of r.state) (memory_of r.memory)

abbrev pub expected : Row → Outcome
expected r =
    record { state = state_of (r.changes ++ r.state); memory = memory_of (r.writes ++ r.memory); event = r.event }

-- ---- states before a step

-- kernel mode, with V, C, S and Z set; the instruction is at 0010h
abbrev pub kernel : List Setting
kernel = SSP ≔ 0x100 ∷ PC ≔ 0x10 ∷ FLAG ≔ 0x4f ∷ []

-- the same in user mode, the MMU being off
abbrev pub user : List Setting
user = SSP ≔ 0x100 ∷ USP ≔ 0x200 ∷ PC ≔ 0x10 ∷ FLAG ≔ 0x0f ∷ []

-- user mode, the MMU being on with the entry 128534h; the instruction is at 1200h, and is read at 3400h
abbrev pub paged : List Setting
paged = PC ≔ 0x1200 ∷ MMU ≔ 1 ∷ ENTRY ≔ 0x128534 ∷ user

-- ---- the starred examples, in the paper's order

unfoldable pub starred : List Row
starred =
    -- "ADD 7FFFh + 1 = 8000h, V S": ADD G0,1
    row (G0 ≔ 0x7fff ∷ FLAG ≔ 0x45 ∷ kernel) (0x10 ≔ 0x1d01 ∷ []) (G0 ≔ 0x8000 ∷ FLAG ≔ 0x4a ∷ PC ≔ 0x12 ∷ []) [] (Executed 4)
    -- "0 - 1 = FFFFh, C S": SUB G0,1
    ∷ row (FLAG ≔ 0x49 ∷ kernel) (0x10 ≔ 0x2501 ∷ []) (G0 ≔ 0xffff ∷ FLAG ≔ 0x46 ∷ PC ≔ 0x12 ∷ []) [] (Executed 4)
    -- "SHLA 8000h by 0 keeps it, C S, 5 states in mode 5": SHLA G0,0
    ∷ row (G0 ≔ 0x8000 ∷ FLAG ≔ 0x49 ∷ kernel) (0x10 ≔ 0x8500 ∷ []) (FLAG ≔ 0x46 ∷ PC ≔ 0x12 ∷ []) [] (Executed 5)
    -- "SHRA 8001h by 1 = C000h, C S": SHRA G0,1
    ∷ row (G0 ≔ 0x8001 ∷ FLAG ≔ 0x49 ∷ kernel) (0x10 ≔ 0x9501 ∷ []) (G0 ≔ 0xc000 ∷ FLAG ≔ 0x46 ∷ PC ≔ 0x12 ∷ []) [] (Executed 6)
    -- "ADDS FFFFh, 1 = 0001h, C=0": ADDS G0,1
    ∷ row (G0 ≔ 0xffff ∷ kernel) (0x10 ≔ 0x4d01 ∷ []) (G0 ≔ 0x0001 ∷ FLAG ≔ 0x40 ∷ PC ≔ 0x12 ∷ []) [] (Executed 5)
    -- "MUL 0100h by itself = 0, Z": MUL G0,G0
    ∷ row (G0 ≔ 0x0100 ∷ FLAG ≔ 0x4e ∷ kernel) (0x10 ≔ 0x5400 ∷ []) (G0 ≔ 0 ∷ FLAG ≔ 0x41 ∷ PC ≔ 0x12 ∷ []) [] (Executed 55)
    -- "DIV FFFFh by 2 = 7FFFh": DIV G0,2
    ∷ row (G0 ≔ 0xffff ∷ kernel) (0x10 ≔ 0x5d02 ∷ []) (G0 ≔ 0x7fff ∷ FLAG ≔ 0x40 ∷ PC ≔ 0x12 ∷ []) [] (Executed 70)
    -- "D4 of 8 is FP-16": LD G0,[FP-16]
    ∷ row (FP ≔ 0x200 ∷ kernel) (0x10 ≔ 0x0b08 ∷ 0x1f0 ≔ 0x1234 ∷ []) (G0 ≔ 0x1234 ∷ PC ≔ 0x12 ∷ []) [] (Executed 7)
    -- "of 7 FP+14": LD G0,[FP+14]
    ∷ row (FP ≔ 0x200 ∷ kernel) (0x10 ≔ 0x0b07 ∷ 0x20e ≔ 0x5678 ∷ []) (G0 ≔ 0x5678 ∷ PC ≔ 0x12 ∷ []) [] (Executed 7)
    -- "MMU off, Dsp FFFFh: with Rx 3 the word at 0002h is read": LD G0,[FFFFh+G1]
    ∷ row (G1 ≔ 3 ∷ user) (0x10 ≔ 0x0901 ∷ 0x12 ≔ 0xffff ∷ 2 ≔ 0x1234 ∷ []) (G0 ≔ 0x1234 ∷ PC ≔ 0x14 ∷ []) [] (Executed 7)
    -- "with Rx 2 fault 11, cause 2, address 0001h": the same
    ∷ row (G1 ≔ 2 ∷ user) (0x10 ≔ 0x0901 ∷ 0x12 ≔ 0xffff ∷ [])
    (SSP ≔ 0xfc ∷ PC ≔ 0x20b0 ∷ FLAG ≔ 0x4f ∷ VIOLATION ≔ 0x0001 ∷ CAUSE ≔ 2 ∷ []) (0xfe ≔ 0x10 ∷ 0xfc ≔ 0x0f ∷ []) (Entered 11 0x10 0x0f)
    -- "entry 128534h, fetch at 1200h reads 3400h and leaves 129534h": LD G0,7
    ∷ row paged (0x3400 ≔ 0x0d07 ∷ []) (G0 ≔ 7 ∷ PC ≔ 0x1202 ∷ ENTRY ≔ 0x129534 ∷ []) [] (Executed 4)
    -- "a store there faults 11, cause 1": ST G0,[G1]
    ∷ row (G1 ≔ 0x1210 ∷ paged) (0x3400 ≔ 0x1601 ∷ [])
    (SSP ≔ 0xfc ∷ PC ≔ 0x20b0 ∷ FLAG ≔ 0x4f ∷ VIOLATION ≔ 0x1210 ∷ CAUSE ≔ 1 ∷ ENTRY ≔ 0x129534 ∷ []) (0xfe ≔ 0x1200 ∷ 0xfc ≔ 0x0f ∷ []) (Entered 11 0x1200 0x0f)
    ∷ []
