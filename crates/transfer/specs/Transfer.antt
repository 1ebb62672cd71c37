-- The accesses of an instruction: the fetch of its words, and its data access, done or not granted.
-- Assumes nothing.
use Rattle.std.specs.Prelude.{Bool, List, Result, Ok, Err, None, Some, ℕ}
use Rattle.mmu.specs.Access.{access_of, violation}
use Rattle.memory.specs.Memory.{read_at, word_at}
use Rattle.mmu.specs.declared.Accessed.{Accessed}
use Rattle.mmu.specs.declared.Fault.{Fault}
use Rattle.mmu.specs.declared.Right.TheVariants as right
use Rattle.mmu.specs.declared.Violation.{Violation}
use Rattle.word.specs.Word.{plus}
use Rattle.word.specs.declared.Width.{Width}
use Rattle.word.specs.declared.Width.TheVariants.{Word}
use Rattle.transfer.specs.declared.Data.{Data}
use Rattle.transfer.specs.declared.Need.{Need}
use Rattle.transfer.specs.declared.Need.TheVariants.{Read, ReadTwo, Value, Write}
use Rattle.transfer.specs.declared.Transferred.{Transferred}

-- the fetch of a word, `on` saying whether the MMU translates
abbrev pub fetch_of : Bool → List ℕ → ℕ → Accessed
fetch_of on tlb a = access_of Word on tlb right.Execute a

-- a word or a byte that was read
abbrev pub loaded : ℕ → Data
loaded v = record { source = v; second = 0; store = None }

-- done at the physical address, or not granted at the logical address `a`
abbrev pub transfer_at : Result ℕ Fault → ℕ → (ℕ → Data) → Result Data Violation
transfer_at (Ok at) a done = Ok (done at)
transfer_at (Err why) a done = Err (violation why a)

-- the physical address, or the logical address `a` that is not granted
abbrev pub granted_at : Result ℕ Fault → ℕ → Result ℕ Violation
granted_at (Ok at) a = Ok at
granted_at (Err why) a = Err (violation why a)

abbrev pub by_access : Accessed → ℕ → (ℕ → Data) → Transferred
by_access x a done = record { transfer = transfer_at x.access a done; tlb = x.tlb }

-- a word or a byte that is read
abbrev pub data_read : Width → Accessed → List ℕ → ℕ → Transferred
data_read width x m a = by_access x a (λ (at : ℕ). loaded (read_at width m at))

-- the second of two words, after the first
abbrev pub second_read : Accessed → List ℕ → ℕ → ℕ → Transferred
second_read x m first a = by_access x a (λ (at : ℕ). record { source = first; second = word_at m at; store = None })

-- the second of two words, the first being read from a physical address or not granted
abbrev pub read_second : Result ℕ Fault → Bool → List ℕ → List ℕ → ℕ → Transferred
read_second (Ok at) on tlb m a = second_read (access_of Word on tlb right.Read (plus a 2)) m (word_at m at) (plus a 2)
read_second (Err why) on tlb m a = record { transfer = Err (violation why a); tlb = tlb }

-- a word or a byte that is to be stored
abbrev pub data_written : Width → Accessed → ℕ → ℕ → Transferred
data_written width x a value = by_access x a (λ (at : ℕ). record { source = 0; second = 0; store = Some (record { width = width; address = at; value = value }) })

-- The access that an instruction needs, `on` saying whether the MMU translates and `value` being what the instruction stores.
unfoldable pub transfer_of : Need → Bool → List ℕ → List ℕ → ℕ → Transferred
transfer_of (Value v) on tlb m value = record { transfer = Ok (loaded v); tlb = tlb }
transfer_of (Read width a) on tlb m value = data_read width (access_of width on tlb right.Read a) m a
transfer_of (ReadTwo a) on tlb m value =
    let x : Accessed = access_of Word on tlb right.Read a in
    read_second x.access on x.tlb m a
transfer_of (Write width a) on tlb m value = data_written width (access_of width on tlb right.Write a) a value
