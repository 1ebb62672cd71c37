-- What the program prints for a card. Document 01: "The program `bench` reads a card from standard input into zero memory, the image zero but
-- FLAG 0040h."
-- Assumes nothing.
use Rattle.std.specs.Prelude.{List, ℕ, ◌+◌, length, replicate, set}
use Rattle.card.specs.Call.{card_valid, filled_part}
use Rattle.layout.specs.Layout.{flag_at, image_size}
use Rattle.listing.specs.Listing.{listing_of}

abbrev pub zero_memory : List ℕ
zero_memory = replicate 65536 0

-- FLAG, whose lower byte stands behind its upper
abbrev pub first_image : List ℕ
first_image = set (replicate image_size 0) (flag_at + 1) 0x40

-- room for the reports of the most runs that a card can have, 1,365
abbrev pub zero_report : List ℕ
zero_report = replicate 16380 0

unfoldable pub bench_of : List ℕ → List ℕ
bench_of card =
    listing_of (card_valid (length zero_memory) first_image card (length zero_report)) (filled_part zero_memory first_image card zero_report)
