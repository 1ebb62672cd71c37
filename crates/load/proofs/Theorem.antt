-- The busiest window's load: proofs of what is promised.
-- Assumes nothing.
use Rattle.std.specs.Prelude.{Bool, false, true, Err, List, Ok, [], ◌++◌, refl, ◌≡◌, suc, zero, ℕ, ◌+◌, ◌<◌, ◌≤◌, ltb, drop, length, take}
use Rattle.std.proofs.Common.{⊎_elim, ap, sym, ◌∙◌, eq-or-lt_of_le, le_antisymm, ltb-false, ltb-true, length-append, length-drop, take-append-drop, length-take-le, take_all, take_at}
use native.Mathlib.Omega.{arith, max_cases}
use Rattle.std.proofs.Math.Seq.{drop-append_seam}
use Rattle.call.specs.Call.{called, unless_refused}
use Rattle.refusal.specs.Laws.{between_range, range_between}
use Rattle.refusal.specs.Refusal.{between, good_if}
use Rattle.refusal.specs.declared.Cause.TheVariants.{WindowWidth}
use Rattle.load.specs.Call.{busiest_call, width_valid}
use Rattle.load.specs.Load.{busiest_of, largest_to, last_start, load_at, load_of, window_at}
use Rattle.load.specs.Statement.{CallGives, EmptyRun, IsBusiest, NotTwice, OneWindow, OnlyBusiest, RefusedTen, Window}
use Rattle.load.specs.Statement.Window.{consecutive, single}

-- ---- the largest of several

largest_most : (f : ℕ → ℕ) (last s : ℕ) → s ≤ last → f s ≤ largest_to f last
unfolding largest_to
largest_most f zero s h = let e : s ≡ 0 = omega arith in rw e (omega arith)
largest_most f (suc k) s h =
    ⊎_elim (λ (e : s ≡ suc k). rw e (omega arith)) (λ (l : s < suc k). omega (arith, largest_most f k s (omega arith))) (eq-or-lt_of_le h)

largest_met : (f : ℕ → ℕ) (last : ℕ) → (s : ℕ) × (s ≤ last) × (f s ≡ largest_to f last)
unfolding largest_to
largest_met f zero = (0, omega arith, refl)
largest_met f (suc k) =
    let (s, l, e) = largest_met f k in
    max_cases (largest_to f k) (f (suc k)) _
    (λ h e'. (suc k, omega arith, sym e'))
    (λ h e'. (s, omega arith, e ∙ sym e'))

-- ---- windows

-- a window is one of those that begin at 0 to the last start
window_starts : (records : List ℕ) (width : ℕ) (window : List ℕ) → Window records width window → (s : ℕ) × (s ≤ last_start records width) × (window_at records width s ≡ window)
window_starts records width window (consecutive before behind e l) =
    let long : length records ≡ length before + (length window + length behind) = ap length e ∙ simp length-append in
    (length before, omega (arith, long), rw (e, drop-append_seam before (window ++ behind), take_at window behind width l))
window_starts records width window (single h e) = (0, omega arith, take_all width records (omega arith) ∙ sym e)

-- each of these is a window
window_at_lem : (records : List ℕ) (width s : ℕ) → s ≤ last_start records width → Window records width (window_at records width s)
window_at_lem records width s h = by (ltb (length records) width) refl
  where
    by : (t : Bool) → ltb (length records) width ≡ t → Window records width (window_at records width s)
    by true e =
        let short : length records < width = ltb-true (length records) width e in
        let none : s ≡ 0 = omega arith in
        single short (rw none (take_all width records (omega arith)))
    by false e =
        let long : width ≤ length records = ltb-false (length records) width e in
        consecutive (take s records) (drop width (drop s records))
        (sym (rw (take-append-drop width (drop s records)) (take-append-drop s records)))
        (length-take-le width (drop s records) (simp length-drop (omega arith)))

-- ---- the figure

pub is_busiest : IsBusiest
is_busiest records width =
    let (s, l, e) = largest_met (load_at records width) (last_start records width) in
    record {
      most = λ window w.
          let (s, l, e) = window_starts records width window w in
          rw (← e) (largest_most (load_at records width) (last_start records width) s l);
      met = (window_at records width s, window_at_lem records width s l, e);
    }

pub only_busiest : OnlyBusiest
only_busiest records width figure b =
    let is = is_busiest records width in
    let (window, w, e) = b.met in
    let (window', w', e') = is.met in
    le_antisymm (omega (arith, is.most window w)) (omega (arith, b.most window' w'))

pub not_twice : NotTwice
not_twice records width figure b = omega (arith, only_busiest records width figure b)

pub one_window : OneWindow
unfolding largest_to
one_window records width h =
    let none : last_start records width ≡ 0 = omega arith in
    rw (none, take_all width records h)

pub empty_run : EmptyRun
unfolding load_of
empty_run width = one_window [] width (omega arith)

-- ---- the call

pub call_gives : CallGives
unfolding busiest_call width_valid
call_gives records width r = rw (range_between 1 4096 width r)

pub refused_ten : RefusedTen
unfolding busiest_call width_valid
refused_ten records width h = by (between 1 4096 width) refl
  where
    by :
        (t : Bool) → between 1 4096 width ≡ t
        → unless_refused (good_if t WindowWidth) records (called (Ok (busiest_of records width)) records)
        ≡ called (Err (record { cause = WindowWidth; place = 0 })) records
    by true e = absurd (h (between_range 1 4096 width e))
    by false e = refl
