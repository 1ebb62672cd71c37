-- Marks change no right; and the address that an access is granted in user mode lies in a frame with the right that it asks for.
-- Assumes nothing.
use Rattle.std.specs.Prelude.{Bool, true, List, [], ◌∷◌, ◌≡◌, refl, ℕ, suc, zero, ◌+◌, ◌/◌, ◌%◌, ◌<◌, get_or, set, Ok}
use Rattle.std.proofs.Math.Bool.{or-true}
use Rattle.std.proofs.Common.{true≢false, sym, ◌∙◌, arith, eq-eqb}
use Rattle.machine.specs.Plan.{translates}
use Rattle.machine.specs.State.{with_tlb}
use Rattle.machine.specs.declared.State.{State}
use Rattle.mmu.specs.Access.{access_of}
use Rattle.mmu.specs.Entry.{frame_in, gives, marked, valid}
use Rattle.mmu.specs.Found.{held_valid}
use Rattle.mmu.specs.Laws.{AccessCases, direct, fails, granted_lower, served}
use Rattle.mmu.proofs.Laws.{access_cases, word_even}
use Rattle.mmu.specs.Marks.{Like, like_frame, like_gives, like_valid, marked_like}
use Rattle.mmu.specs.declared.Accessed.{Accessed}
use Rattle.mmu.specs.declared.Right.{Right}
use Rattle.word.specs.Word.{halves, lower, plus, upper}
use Rattle.word.specs.declared.Width.{Width}
use Rattle.word.specs.declared.Width.TheVariants.{Byte, Word}
use Rattle.isolation.specs.OneStep.{SameRights}
use Rattle.isolation.specs.Statement.{UserMode, has_right}

-- ---- user mode

pub on : (st : State) → UserMode st → translates st ≡ true
on st u = rw (u.mmu_on, u.user)

pub user_after : (st : State) (tlb : List ℕ) → UserMode st → UserMode (with_tlb st tlb)
user_after st tlb u = record { user = u.user; no_ports = u.no_ports; mmu_on = u.mmu_on }

-- ---- a TLB with other marks

pub rights_marked : (tlb : List ℕ) (k : ℕ) (by : Right) → SameRights tlb (set tlb k (marked by (get_or tlb k 0)))
unfolding has_right
rights_marked [] k by right frame = refl
rights_marked (x ∷ xs) zero by right frame =
    let l : Like x (marked by x) = marked_like by x in
    rw (like_valid l, like_frame l, like_gives l right)
rights_marked (x ∷ xs) (suc k) by right frame = rw (rights_marked xs k by right frame)

-- ---- an entry that serves

shows :
    (tlb : List ℕ) (k : ℕ) (right : Right) → valid (get_or tlb k 0) ≡ true → gives right (get_or tlb k 0) ≡ true
    → has_right tlb right (frame_in (get_or tlb k 0)) ≡ true
unfolding has_right
shows [] k right v g = absurd (true≢false (sym v))
shows (x ∷ xs) zero right v g = rw (v, g, eq-eqb (frame_in x) (frame_in x) refl)
shows (x ∷ xs) (suc k) right v g = simp (shows xs k right v g, or-true)

-- a byte in a frame with the right
pub record ByteIn (tlb : List ℕ) (right : Right) (p : ℕ) : Type 0 where
  pub inside : p < 65536
  pub allowed : has_right tlb right (upper p) ≡ true

-- each byte of an access to p
abbrev pub BytesIn : Width → List ℕ → Right → ℕ → Type 0
BytesIn Byte tlb right p = ByteIn tlb right p
BytesIn Word tlb right p = ByteIn tlb right p × ByteIn tlb right (plus p 1)

module _ (on : Bool) (t : on ≡ true) (tlb : List ℕ) (right : Right) (a p : ℕ) where
  granted_in : {x : Accessed} → AccessCases on tlb right a x → x.access ≡ Ok p → ByteIn tlb right p
  granted_in (direct off e) q = absurd (true≢false (sym t ∙ off))
  granted_in (served k o b h g e) q =
      let same : p ≡ halves (frame_in (get_or tlb k 0)) (lower a) = cc in
      let frame : p / 256 ≡ frame_in (get_or tlb k 0) = omega arith in
      record { inside = omega arith; allowed = rw frame (shows tlb k right (held_valid (upper a) (get_or tlb k 0) h) g) }
  granted_in (fails why e) q = let z : ◌≡◌ {A = ℕ} 0 1 = cc in absurd (omega arith)

  pub access_in : (width : Width) → (access_of width on tlb right a).access ≡ Ok p → BytesIn width tlb right p
  access_in Byte q = granted_in (access_cases Byte on tlb right a) q
  access_in Word q =
      let first : ByteIn tlb right p = granted_in (access_cases Word on tlb right a) q in
      let in-range : p < 65536 = first.inside in
      let even : p % 2 ≡ 0 = omega (arith, word_even on tlb right a p q, granted_lower (access_cases Word on tlb right a) q) in
      let frame : (p + 1) % 65536 / 256 ≡ p / 256 = omega arith in
      (first, record { inside = omega arith; allowed = rw frame first.allowed })
