-- An access. Document 01, "MMU" and "Faults in order": "Each access is tested for an odd word address (11, cause bit 1, in any mode), then no
-- entry (10), then right (11, cause bit 0)."
-- Assumes nothing.
use Rattle.std.specs.Prelude.{Bool, cond, List, Option, None, Some, Ok, Err, ℕ, ◌%◌, eqb, get_or, set}
use Rattle.word.specs.Word.{halves, lower, upper}
use Rattle.word.specs.declared.Width.{Width}
use Rattle.word.specs.declared.Width.TheVariants.{Byte, Word}
use Rattle.mmu.specs.Entry.{frame_in, gives, marked}
use Rattle.mmu.specs.Lookup.{lookup_of}
use Rattle.mmu.specs.declared.Accessed.{Accessed}
use Rattle.mmu.specs.declared.Fault.{Fault}
use Rattle.mmu.specs.declared.Fault.TheVariants as fault
use Rattle.mmu.specs.declared.Right.{Right}
use Rattle.mmu.specs.declared.Violation.{Violation}

abbrev pub granted : ℕ → List ℕ → Accessed
granted a tlb = record { access = Ok a; tlb = tlb }

abbrev pub failed : Fault → List ℕ → Accessed
failed why tlb = record { access = Err why; tlb = tlb }

-- not granted, at the logical address `a`
abbrev pub violation : Fault → ℕ → Violation
violation why a = record { fault = why; address = a }

-- "then right": the serving entry's own, of entry k
unfoldable pub by_entry : List ℕ → ℕ → Right → ℕ → Accessed
by_entry tlb k right a =
    cond (gives right (get_or tlb k 0))
    (granted (halves (frame_in (get_or tlb k 0)) (lower a)) (set tlb k (marked right (get_or tlb k 0))))
    (failed fault.Refused tlb)

-- "then no entry"
abbrev pub by_lookup : Option ℕ → List ℕ → Right → ℕ → Accessed
by_lookup None tlb right a = failed fault.Missing tlb
by_lookup (Some k) tlb right a = by_entry tlb k right a

unfoldable pub by_tlb : List ℕ → Right → ℕ → Accessed
by_tlb tlb right a = by_lookup (lookup_of tlb (upper a)) tlb right a

-- translated, or at the address itself
unfoldable pub aligned_access : Bool → List ℕ → Right → ℕ → Accessed
aligned_access on tlb right a = cond on (by_tlb tlb right a) (granted a tlb)

-- an access to a byte; to a word "tested for an odd word address ... in any mode" first
unfoldable pub access_of : Width → Bool → List ℕ → Right → ℕ → Accessed
access_of Byte on tlb right a = aligned_access on tlb right a
access_of Word on tlb right a = cond (eqb (a % 2) 1) (failed fault.Odd tlb) (aligned_access on tlb right a)
