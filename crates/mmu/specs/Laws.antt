-- The law of an access: its cases, and what follows for every access from them.
-- Assumes nothing.
use Rattle.std.specs.Prelude.{Bool, List, Ok, ◌≡◌, ℕ, ◌<◌, get_or, length, set}
use Rattle.std.proofs.Math.Bool.{false, true}
use Rattle.std.proofs.Math.Path.{refl}
use Rattle.std.proofs.Common.{◌∙◌, arith, length-set}
use Rattle.word.specs.Word.{halves, lower, upper}
use Rattle.mmu.specs.Access.{failed, granted}
use Rattle.mmu.specs.Entry.{frame_in, gives, marked}
use Rattle.mmu.specs.Lookup.{has_page}
use Rattle.mmu.specs.declared.Accessed.{Accessed}
use Rattle.mmu.specs.declared.Fault.{Fault}
use Rattle.mmu.specs.declared.Right.{Right}

-- What an access is: granted at the address itself, where nothing is translated; granted by a valid entry that has the page and gives the
-- right, of which only the marks change; or failed, with the TLB as it was.
pub data AccessCases (on : Bool) (tlb : List ℕ) (right : Right) (a : ℕ) (x : Accessed) : Type 0 where
  direct : on ≡ false → x ≡ granted a tlb → AccessCases on tlb right a x
  served :
      (k : ℕ) → on ≡ true → k < 8 → has_page (upper a) (get_or tlb k 0) ≡ true → gives right (get_or tlb k 0) ≡ true
      → x ≡ granted (halves (frame_in (get_or tlb k 0)) (lower a)) (set tlb k (marked right (get_or tlb k 0))) → AccessCases on tlb right a x
  fails : (why : Fault) → x ≡ failed why tlb → AccessCases on tlb right a x

-- ---- what each case has

module _ {on : Bool} {tlb : List ℕ} {right : Right} {a : ℕ} {x : Accessed} where
  -- what marks keep, an access keeps
  pub access_keeps :
      (P : List ℕ → Type 0)
      → ((t : List ℕ) (k : ℕ) (r : Right) → P t → P (set t k (marked r (get_or t k 0))))
      → AccessCases on tlb right a x → P tlb → P x.tlb
  access_keeps P mark (direct off e) h = rw e h
  access_keeps P mark (served k o l v g e) h = rw e (mark tlb k right h)
  access_keeps P mark (fails why e) h = rw e h

  pub length_kept : AccessCases on tlb right a x → length x.tlb ≡ length tlb
  length_kept w = access_keeps (λ t. length t ≡ length tlb) (λ t k r h. length-set t k (marked r (get_or t k 0)) ∙ h) w refl

  -- the address that is granted: within memory, and in its page where the access asked
  pub granted_inside : {p : ℕ} → AccessCases on tlb right a x → a < 65536 → x.access ≡ Ok p → p < 65536
  granted_inside {p} (direct off e) l q = let same : p ≡ a = cc in omega arith
  granted_inside {p} (served k o b v g e) l q = let same : p ≡ halves (frame_in (get_or tlb k 0)) (lower a) = cc in omega arith
  granted_inside (fails why e) l q = let z : ◌≡◌ {A = ℕ} 0 1 = cc in absurd (omega arith)

  pub granted_lower : {p : ℕ} → AccessCases on tlb right a x → x.access ≡ Ok p → lower p ≡ lower a
  granted_lower {p} (direct off e) q = let same : p ≡ a = cc in omega arith
  granted_lower {p} (served k o b v g e) q = let same : p ≡ halves (frame_in (get_or tlb k 0)) (lower a) = cc in omega arith
  granted_lower (fails why e) q = let z : ◌≡◌ {A = ℕ} 0 1 = cc in absurd (omega arith)
