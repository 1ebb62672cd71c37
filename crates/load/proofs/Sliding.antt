-- A window that moves over a run, record by record.
-- Assumes nothing.
use mathlib.Core.List.{List}
use mathlib.Core.Path.{ap, sym, ◌∙◌, ◌≡◌}
use Prim.Native.Nat.{max, min, ℕ, ◌+◌, ◌-◌, ◌<◌, ◌≤◌}
use native.Mathlib.Omega.{arith, min_cases}
use lib.ListN.{drop, get_or, length, take}
use lib.Seq.{take_all, take-length}
use Rattle.std.proofs.Common.{get_or-drop, get_or-take, length-drop, length-take}
use Rattle.load.proofs.Laws.{largest_more, load_at_small, load_moves, on_small}
use Rattle.load.specs.Load.{largest_to, last_start, load_at, load_of, on_of}

-- the first window has moved on by so many records, and the most of those up to it is known
pub record Sliding (records : List ℕ) (width load most moved : ℕ) : Type 0 where
  pub within : moved ≤ last_start records width
  pub here : load ≡ load_at records width moved
  pub so_far : most ≡ largest_to (load_at records width) moved

-- the first window is the whole run where that is shorter
first_window : (records : List ℕ) (width : ℕ) → take (min width (length records)) records ≡ take width records
first_window records width =
    min_cases width (length records) (take (min width (length records)) records ≡ take width records)
    (λ h e. rw e)
    (λ h e. rw e (take-length records ∙ sym (take_all width records (omega arith))))

pub starts :
    (records : List ℕ) (width filled load : ℕ) → filled ≡ min width (length records) → load ≡ load_of (take filled records)
    → Sliding records width load load 0
unfolding largest_to
starts records width filled load f l =
    let first : load ≡ load_at records width 0 =
    l ∙ ap (λ (n : ℕ). load_of (take n records)) f ∙ ap load_of (first_window records width) in
    record { within = omega arith; here = first; so_far = first }

-- the records that enter a window as it moves on
abbrev pub entering : List ℕ → ℕ → List ℕ
entering records filled = take (length records - filled) (drop filled records)

pub entering_long : (records : List ℕ) (filled : ℕ) → length (entering records filled) ≡ length records - filled
entering_long records filled = omega (arith, length-take (length records - filled) (drop filled records), length-drop filled records)

-- a window moves on by one record: which one enters, and which one leaves
pub record Turn (records : List ℕ) (filled moved enters leaves : ℕ) : Type 0 where
  pub more : moved < length records - filled
  pub enters_is : enters ≡ get_or records (filled + moved) 0
  pub leaves_is : leaves ≡ get_or records moved 0

pub turn_is :
    (records : List ℕ) (filled moved enters leaves : ℕ) → moved < length (entering records filled) → enters ≡ get_or (entering records filled) moved 0
    → leaves ≡ get_or records moved 0 → Turn records filled moved enters leaves
turn_is records filled moved enters leaves h e l =
    let more : moved < length records - filled = omega (arith, entering_long records filled) in
    record {
      more = more;
      enters_is = e ∙ get_or-take (length records - filled) (drop filled records) moved 0 more ∙ get_or-drop filled records moved 0;
      leaves_is = l;
    }

module _ {records : List ℕ} {width load most moved : ℕ} (s : Sliding records width load most moved) {filled enters leaves : ℕ}
    (f : filled ≡ min width (length records)) (t : Turn records filled moved enters leaves) {one : ℕ} (o : one ≡ on_of enters) where
  wide : filled ≡ width
  wide = omega (arith, t.more)

  pub enters_fits : load + one ≤ length records
  enters_fits = omega (arith, t.more, s.here, load_at_small records width moved, o, on_small enters)

  pub moves : {other : ℕ} → other ≡ on_of leaves → (other ≤ load + one) × (load + one - other ≡ load_at records width (moved + 1))
  moves {other} p =
      let place : filled + moved ≡ moved + width = omega (arith, wide) in
      let first : one ≡ on_of (get_or records (moved + width) 0) = o ∙ ap on_of (t.enters_is ∙ ap (λ (k : ℕ). get_or records k 0) place) in
      let last : other ≡ on_of (get_or records moved 0) = p ∙ ap on_of t.leaves_is in
      omega (arith, s.here, first, last, load_moves records width moved (omega (arith, t.more, wide)))

  pub slides : {load' most' : ℕ} → load' ≡ load_at records width (moved + 1) → most' ≡ max most load' → Sliding records width load' most' (moved + 1)
  slides {load'} {most'} e m =
      record {
        within = omega (arith, t.more, wide);
        here = e;
        so_far = m ∙ rw (s.so_far, e) (sym (largest_more (load_at records width) moved));
      }
