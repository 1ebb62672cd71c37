-- A text written from the start of a buffer, and the lines of a report by its runs.
-- Assumes nothing.
use Rattle.std.specs.Prelude.{List, [], ◌++◌, ◌∷◌, refl, ◌≡◌, suc, zero, ℕ, ◌+◌, drop, length, set, take, get_or, ◌<◌}
use Rattle.std.specs.List.{flat_map}
use Rattle.std.specs.Simd.{first_chunks}
use Rattle.std.proofs.Common.{ap, sym, ◌∙◌, arith, get_or-take, append-nil, zero-le}
use Rattle.std.proofs.Math.Seq.{drop-nil}
use Rattle.std.proofs.lemmas.List.{take_more}
use Rattle.std.proofs.lemmas.List.Concat.{flat_map-append}
use Rattle.std.proofs.lemmas.List.Edits.{sets}
use Rattle.text.specs.Wrote.{sets_out}
use Rattle.report.specs.Layout.{report_size}
use Rattle.listing.specs.Listing.{line_of, lines_of, over}

sets_cons : (a : ℕ) (t : List ℕ) (i : ℕ) (xs : List ℕ) → sets (a ∷ t) (suc i) xs ≡ a ∷ sets t i xs
sets_cons a t i [] = refl
sets_cons a t i (x ∷ xs) = sets_cons a (set t i x) (suc i) xs

pub sets_over : (t xs : List ℕ) → sets t 0 xs ≡ over t xs
sets_over [] xs = sets_out [] 0 xs zero-le ∙ sym (drop-nil (length xs))
sets_over (a ∷ t) [] = refl
sets_over (a ∷ t) (x ∷ xs) = sets_cons x t 0 xs ∙ ap (λ (l : List ℕ). x ∷ l) (sets_over t xs)

-- a line is of the 12 bytes at the front
pub line_front : (r : List ℕ) → line_of (take report_size r) ≡ line_of r
unfolding line_of
line_front r =
    rw (
      get_or-take report_size r 0 0 (omega arith),
      get_or-take report_size r 1 0 (omega arith),
      get_or-take report_size r 2 0 (omega arith),
      get_or-take report_size r 3 0 (omega arith),
      get_or-take report_size r 4 0 (omega arith),
      get_or-take report_size r 5 0 (omega arith),
      get_or-take report_size r 6 0 (omega arith),
      get_or-take report_size r 7 0 (omega arith),
      get_or-take report_size r 8 0 (omega arith),
      get_or-take report_size r 9 0 (omega arith),
      get_or-take report_size r 10 0 (omega arith),
      get_or-take report_size r 11 0 (omega arith),
    )

-- the lines of the first runs, and of one more
pub lines_more :
    (runs : List (List ℕ)) (i : ℕ) (d : List ℕ) → i < length runs
    → flat_map line_of (take (i + 1) runs) ≡ flat_map line_of (take i runs) ++ line_of (get_or runs i d)
lines_more runs i d h =
    rw (take_more runs i d h, flat_map-append) (ap (λ (l : List ℕ). flat_map line_of (take i runs) ++ l) (append-nil (line_of (get_or runs i d))))

-- the lines of all runs
pub lines_of_chunks : (n : ℕ) (r : List ℕ) → flat_map line_of (first_chunks report_size n r) ≡ lines_of n r
unfolding lines_of
lines_of_chunks zero r = refl
lines_of_chunks (suc n) r = rw (line_front, lines_of_chunks n (drop report_size r))
