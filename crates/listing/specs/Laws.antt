-- Laws of the listing: how long a text can be, and the listings of document 01's worked card, of no run and of a refusal.
-- Assumes nothing.
use Rattle.std.specs.Prelude.{List, [], ◌∷◌, refl, ◌≡◌, suc, zero, ℕ, ◌*◌, ◌+◌, ◌/◌, ◌≤◌, eqb, drop, get_or, length, Err, Ok}
use Rattle.std.proofs.Common.{arith, length-append}
use Rattle.report.specs.Layout.{ending_at, number_at, report_size, states_at, steps_at}
use Rattle.endian.specs.Bytes.{word_from}
use Rattle.listing.specs.Listing.{ending_text, line_of, lines_of, listing_of, number_text, refused_text, runs_text}
use Rattle.refusal.specs.Refusal.{Validity, cause_number, refused}
use Rattle.refusal.specs.declared.Cause.TheVariants.{CommandBeyond}
use Rattle.text.proofs.Laws.{cond_bound, decimal_bound}
use Rattle.text.specs.Text.{ascii, decimal_of, hex_of}

ending_bound : (n : ℕ) → length (ending_text n) ≤ 7
unfolding ending_text
ending_bound n =
    cond_bound (eqb n 0) 7 _ _ (omega arith)
    (cond_bound (eqb n 1) 7 _ _ (omega arith)
    (cond_bound (eqb n 2) 7 _ _ (omega arith) (omega arith)))

number_bound : (n : ℕ) → length (number_text n) ≤ 3
unfolding number_text
number_bound n = cond_bound (eqb n 255) 3 _ _ (omega arith) (decimal_bound 3 n)

pub line_bound : (r : List ℕ) → length (line_of r) ≤ 39
unfolding line_of hex_of
line_bound r =
    simp length-append
    (omega (
      arith,
      ending_bound (get_or r ending_at 0),
      number_bound (get_or r number_at 0),
      decimal_bound 5 (word_from r steps_at),
      decimal_bound 10 (word_from r states_at * 65536 + word_from r (states_at + 2)),
    ))

lines_bound : (n : ℕ) (r : List ℕ) → length (lines_of n r) ≤ 39 * n
unfolding lines_of
lines_bound zero r = omega arith
lines_bound (suc n) r = simp length-append (omega (arith, line_bound r, lines_bound n (drop report_size r)))

pub listing_bound : (v : Validity) (report : List ℕ) → length (listing_of v report) ≤ 39 * (length report / report_size) + 30
unfolding listing_of runs_text refused_text
listing_bound (Err r) report = simp length-append (omega (arith, decimal_bound 10 (cause_number r.cause), decimal_bound 10 r.place))
listing_bound (Ok u) report =
    simp length-append (omega (arith, decimal_bound 20 (length report / report_size), lines_bound (length report / report_size) report))

-- the report of the worked card
pub worked_card_lem :
    listing_of (Ok tt) (1 ∷ 15 ∷ 0 ∷ 4 ∷ 0 ∷ 0 ∷ 0 ∷ 21 ∷ 0 ∷ 8 ∷ 0 ∷ 64 ∷ 2 ∷ 255 ∷ 0 ∷ 1 ∷ 0 ∷ 0 ∷ 0 ∷ 5 ∷ 0 ∷ 2 ∷ 0 ∷ 64 ∷ [])
    ≡ ascii "runs 2\nentered 15 4 21 0008 0040\nhalted - 1 5 0002 0040\n"
unfolding listing_of runs_text lines_of line_of ending_text number_text decimal_of hex_of
worked_card_lem = refl

pub worked_empty : listing_of (Ok tt) [] ≡ ascii "runs 0\n"
unfolding listing_of runs_text lines_of decimal_of
worked_empty = refl

pub worked_refusal : listing_of (refused CommandBeyond 4095) [] ≡ ascii "refused 7 4095\n"
unfolding listing_of refused_text decimal_of
worked_refusal = refl
