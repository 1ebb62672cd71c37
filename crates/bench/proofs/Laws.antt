-- A listing of the program is never cut, and the program refuses a card for what the card itself has.
-- Assumes nothing.
use Rattle.std.specs.Prelude.{List, ◌++◌, refl, ◌≡◌, min, ℕ, ◌*◌, ◌≤◌, drop, length, take, Err, Ok}
use Rattle.std.proofs.Common.{ap, sym, ◌∙◌, arith, le-leb, take_all, take_at}
use Rattle.std.proofs.Math.Nat.{min-eq_left}
use Rattle.std.proofs.Math.ListN.{length-replicate}
use Rattle.card.specs.Call.{card_valid, filled_part}
use Rattle.command.specs.Card.{reading_of, runs_in}
use Rattle.card.specs.Laws.{part_short}
use Rattle.command.specs.Laws.{runs_bound}
use Rattle.layout.specs.Valid.{all_zeros, control_good, count_good, flag_good, good_image, pending_good, timer_good, zeros_good}
use Rattle.call.specs.Valid.{image_valid, machine_valid, memory_valid, report_fits}
use Rattle.refusal.specs.Refusal.{Validity, and_then}
use Rattle.listing.specs.Laws.{listing_bound}
use Rattle.listing.specs.Listing.{listing_of, over}
use Rattle.report.specs.Layout.{report_size}
use Rattle.bench.specs.Bench.{bench_of, first_image, zero_memory, zero_report}

-- a listing fits a text of 65,536 bytes
pub bench_short : (card : List ℕ) → length (bench_of card) ≤ 65536
unfolding bench_of
bench_short card =
    let part : List ℕ = filled_part zero_memory first_image card zero_report in
    let short : length part ≤ 16380 = part_short zero_memory first_image card zero_report in
    omega (arith, listing_bound (card_valid (length zero_memory) first_image card (length zero_report)) part, short)

-- what is written to such a text is the whole listing
module _ (card before after : List ℕ) (v : Validity) (count : ℕ) (part : List ℕ) (room : 65536 ≤ length before)
    (a : v ≡ card_valid 65536 first_image card 16380) (p : part ≡ filled_part zero_memory first_image card zero_report)
    (c : count ≡ min (length (listing_of v part)) (length before)) (w : after ≡ over before (listing_of v part)) where
  listing_is : listing_of v part ≡ bench_of card
  unfolding bench_of
  listing_is = rw (length-replicate {A = ℕ} 65536 0, length-replicate {A = ℕ} 16380 0, a, p)

  count_is : count ≡ length (bench_of card)
  count_is =
      c
      ∙ ap (λ (bytes : List ℕ). min (length bytes) (length before)) listing_is
      ∙ min-eq_left (omega (arith, bench_short card))

  after_is : after ≡ bench_of card ++ drop (length (bench_of card)) before
  after_is =
      w
      ∙ ap (over before) listing_is
      ∙ ap (λ (bytes : List ℕ). bytes ++ drop (length (bench_of card)) before) (take_all (length before) (bench_of card) (omega (arith, bench_short card)))

  pub written : take count after ≡ bench_of card
  written = ap (take count) after_is ∙ take_at (bench_of card) (drop (length (bench_of card)) before) count (sym count_is)

first_good : (long : ℕ) → long ≡ 65536 → machine_valid long first_image ≡ Ok tt
unfolding memory_valid image_valid good_image flag_good pending_good all_zeros zeros_good timer_good count_good control_good
first_good long e = rw e refl

report_enough : (v : Validity) (needed long : ℕ) → needed ≤ long → and_then v (report_fits long needed) ≡ v
unfolding report_fits
report_enough (Err r) needed long h = refl
report_enough (Ok u) needed long h = rw (le-leb needed long h)

-- memory, image and report are good, so a card is refused only for itself
pub bench_validity : (card : List ℕ) → card_valid (length zero_memory) first_image card (length zero_report) ≡ (reading_of card).validity
unfolding card_valid
bench_validity card =
    let needed : ℕ = report_size * runs_in (reading_of card).commands in
    let room : needed ≤ length zero_report = omega (arith, length-replicate {A = ℕ} 16380 0, runs_bound card) in
    rw (first_good (length zero_memory) (length-replicate {A = ℕ} 65536 0)) (report_enough (reading_of card).validity needed (length zero_report) room)
