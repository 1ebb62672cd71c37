-- Demand 3: `Isolation`, about two runs.
-- Assumes nothing.
use Rattle.std.specs.Prelude.{Bool, false, true, ◌&&◌, ◌||◌, List, [], ◌∷◌, ◌⊎◌, ◌≡◌, ℕ, ◌<◌, eqb, get_or, length}
use Rattle.image.specs.Image.{image_of}
use Rattle.machine.specs.Enter.{vector_of}
use Rattle.machine.specs.Run.{Ran, run_of}
use Rattle.machine.specs.State.{with_pc}
use Rattle.machine.specs.declared.Ending.{Ending}
use Rattle.machine.specs.declared.Ending.TheVariants as ending
use Rattle.machine.specs.declared.State.{State}
use Rattle.mmu.specs.Entry.{frame_in, gives, valid}
use Rattle.memory.specs.Memory.{word_at}
use Rattle.mmu.specs.declared.Right.{Right}
use Rattle.mmu.specs.declared.Right.TheVariants.{Execute, Read, Write}
use Rattle.report.specs.Report.{report_of_ran}
use Rattle.word.specs.Word.{minus, upper}

-- ---- rights, user mode, memories

-- "A frame has a right if any valid entry for it gives that right."
unfoldable pub has_right : List ℕ → Right → ℕ → Bool
has_right [] right frame = false
has_right (entry ∷ entries) right frame =
    (valid entry && (eqb (frame_in entry) frame && gives right entry)) || has_right entries right frame

-- frames to which the TLB gives a read or an execute right
abbrev pub visible : List ℕ → ℕ → Bool
visible tlb frame = has_right tlb Read frame || has_right tlb Execute frame

-- a state "in user mode without I/O privilege, MMU on"
pub record UserMode (st : State) : Type 0 where
  pub user : st.flags.p ≡ false
  pub no_ports : st.flags.i ≡ false
  pub mmu_on : st.mmu ≡ true

-- "any two memories of 64 KiB that differ only in frames to which the TLB gives neither read nor execute right"
pub record Alike (tlb m m' : List ℕ) : Type 0 where
  pub long : length m ≡ 65536
  pub long' : length m' ≡ 65536
  pub same : (a : ℕ) → a < 65536 → visible tlb (upper a) ≡ true → get_or m a 0 ≡ get_or m' a 0

-- ---- kernel entries

-- "except the handler address loaded at a kernel entry": the state without PC after an entry, and whole otherwise
abbrev pub but_handler : Ending → State → State
but_handler ending.Spent st = st
but_handler (ending.Entered number pc flag) st = with_pc st 0
but_handler ending.Halted st = st
but_handler ending.Lost st = st

-- after an entry PC is the handler's address, in the final memory m
abbrev pub AtHandler : Ending → State → List ℕ → Type 0
AtHandler ending.Spent st m = Unit {0}
AtHandler (ending.Entered number pc flag) st m = st.pc ≡ word_at m (vector_of number)
AtHandler ending.Halted st m = Unit {0}
AtHandler ending.Lost st m = Unit {0}

-- the four bytes that a kernel entry pushes
abbrev pub Pushed : ℕ → ℕ → Type 0
Pushed ssp a = (a ≡ minus ssp 4) ⊎ ((a ≡ minus ssp 3) ⊎ ((a ≡ minus ssp 2) ⊎ (a ≡ minus ssp 1)))

abbrev pub PushedAt : Ending → ℕ → ℕ → Type 0
PushedAt ending.Spent ssp a = ⊥
PushedAt (ending.Entered number pc flag) ssp a = Pushed ssp a
PushedAt ending.Halted ssp a = ⊥
PushedAt ending.Lost ssp a = ⊥

-- "every byte of a frame without write right is what it was at the start, save the four that a kernel entry pushes": m has come to be n
abbrev pub Spared : State → Ending → List ℕ → List ℕ → Type 0
Spared st x m n = (a : ℕ) → has_right st.tlb Write (upper a) ≡ false → (get_or n a 0 ≡ get_or m a 0) ⊎ PushedAt x st.ssp a

-- ---- isolation: runs from a state in user mode

-- what two runs share that start in one state, on two memories
pub record Shared (st : State) (m m' : List ℕ) (r r' : Ran) : Type 0 where
  -- "The two runs ... share every answer": the 12 report bytes
  pub report : report_of_ran r ≡ report_of_ran r'
  -- "They share every byte of state too, except the handler address"
  pub image : image_of (but_handler r.ending r.state) ≡ image_of (but_handler r'.ending r'.state)
  pub handler : AtHandler r.ending r.state r.memory
  pub handler' : AtHandler r'.ending r'.state r'.memory
  -- "Their memories afterwards differ only at bytes where they did before"
  pub long : length r.memory ≡ 65536
  pub long' : length r'.memory ≡ 65536
  pub memory : (a : ℕ) → get_or m a 0 ≡ get_or m' a 0 → get_or r.memory a 0 ≡ get_or r'.memory a 0
  -- "and in each, every byte of a frame without write right is what it was at the start"
  pub spared : Spared st r.ending m r.memory
  pub spared' : Spared st r'.ending m' r'.memory

abbrev pub Isolation : Type 0
Isolation = (n : ℕ) (st : State) (m m' : List ℕ) → UserMode st → Alike st.tlb m m' → Shared st m m' (run_of n st m) (run_of n st m')
