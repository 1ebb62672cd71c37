-- Demand 3 on calls. A run is called with a memory, an image, an allowance and a report; `run_call` (direct/Call), the contract of `tac_run`, says
-- what it answers and what it leaves in them. `isolated_calls`: two such calls that differ in the memory alone are `Together`.
-- Assumes nothing.
use Rattle.std.specs.Prelude.{false, List, ◌⊎◌, ◌≡◌, ℕ, ◌+◌, get_or, length, Err, Ok}
use Rattle.image.specs.Decode.{state_from}
use Rattle.layout.specs.Layout.{image_size, pc_at, ssp_at}
use Rattle.isolation.specs.Statement.{Alike, Pushed, UserMode, has_right}
use Rattle.machine.specs.Answers.{ending_number}
use Rattle.machine.specs.Enter.{vector_of}
use Rattle.machine.specs.declared.Ending.TheVariants as ending
use Rattle.memory.specs.Memory.{word_at}
use Rattle.mmu.specs.declared.Right.TheVariants.{Write}
use Rattle.call.specs.Call.{Call, buffers, called}
use Rattle.refusal.specs.declared.Refusal.{Refusal}
use Rattle.report.specs.Layout.{ending_at, number_at}
use Rattle.roundtrip.specs.Statement.{Bytes}
use Rattle.direct.specs.Call.{run_call}
use Rattle.call.specs.Valid.{run_valid}
use Rattle.endian.specs.Bytes.{byte_from, word_from}
use Rattle.word.specs.Word.{upper}

-- ---- kernel entries, by the bytes that a call leaves

-- the call's report says that the kernel was entered
abbrev pub Enters : Call → Type 0
Enters c = byte_from c.lent.report ending_at ≡ ending_number (ending.Entered 0 0 0)

-- "the handler address loaded at a kernel entry": PC's bytes in the image, 30 and 31
abbrev pub PcByte : ℕ → Type 0
PcByte k = (k ≡ pc_at) ⊎ (k ≡ pc_at + 1)

-- there stands the address of the handler of the number entered, in the memory that the call left
abbrev pub AtHandler : Call → Type 0
AtHandler c = word_from c.lent.image pc_at ≡ word_at c.lent.memory (vector_of (byte_from c.lent.report number_at))

-- ---- refusals

-- demand 1: "one of eight numbered refusals with memory, state and report untouched"
abbrev pub refused_call : Refusal → List ℕ → List ℕ → List ℕ → Call
refused_call r m b rep = called (Err r) (buffers m b rep)

-- ---- two calls, on the memories m and m', with the image b

pub record Given (m m' b : List ℕ) : Type 0 where
  -- the buffers are of bytes
  pub image_bytes : Bytes b
  pub memory_bytes : Bytes m
  pub memory_bytes' : Bytes m'
  -- "any state in user mode without I/O privilege, MMU on"
  pub user : UserMode (state_from b)
  -- "any two memories of 64 KiB that differ only in frames to which the TLB gives neither read nor execute right"
  pub alike : Alike (state_from b).tlb m m'

-- "every byte of a frame without write right is what it was at the start, save the four that a kernel entry pushes": c was called on n
abbrev pub Spared : List ℕ → List ℕ → Call → Type 0
Spared b n c =
    (a : ℕ) → has_right (state_from b).tlb Write (upper a) ≡ false
    → (get_or c.lent.memory a 0 ≡ get_or n a 0) ⊎ (Enters c × Pushed (word_from b ssp_at) a)

-- what the calls share
pub record Shared (m m' b : List ℕ) (c c' : Call) : Type 0 where
  -- "share every answer: ending, number entered, step and state count, PC and FLAG (the saved ones after an entry)"
  pub answer : c.answer ≡ c'.answer
  pub report : c.lent.report ≡ c'.lent.report
  -- "They share every byte of state too, except the handler address loaded at a kernel entry"
  pub image_long : length c.lent.image ≡ image_size
  pub image_long' : length c'.lent.image ≡ image_size
  pub image : (k : ℕ) → (get_or c.lent.image k 0 ≡ get_or c'.lent.image k 0) ⊎ (Enters c × PcByte k)
  pub handler : Enters c → AtHandler c
  pub handler' : Enters c' → AtHandler c'
  -- "Their memories afterwards differ only at bytes where they did before"
  pub memory_long : length c.lent.memory ≡ 65536
  pub memory_long' : length c'.lent.memory ≡ 65536
  pub memory : (a : ℕ) → get_or m a 0 ≡ get_or m' a 0 → get_or c.lent.memory a 0 ≡ get_or c'.lent.memory a 0
  -- "and in each, every byte of a frame without write right is what it was at the start"
  pub spared : Spared b m c
  pub spared' : Spared b m' c'

-- the tests of a call see the memory's length alone, so both are refused alike, each leaving every buffer as it was, or both pass
pub record Together (m m' b rep : List ℕ) (c c' : Call) : Type 0 where
  pub refused : (r : Refusal) → run_valid (length m) b (length rep) ≡ Err r → (c ≡ refused_call r m b rep) × (c' ≡ refused_call r m' b rep)
  pub passed : run_valid (length m) b (length rep) ≡ Ok tt → Given m m' b → Shared m m' b c c'

abbrev pub IsolatedCalls : Type 0
IsolatedCalls =
    (m m' b : List ℕ) (allowance : ℕ) (rep : List ℕ) → length m ≡ length m'
    → Together m m' b rep (run_call m b allowance rep) (run_call m' b allowance rep)
