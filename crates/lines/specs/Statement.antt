-- The lines of a listing: a line for each report, in order, and in it the words for the numbers of the run's ending.
-- Assumes nothing.
use Rattle.std.specs.Prelude.{Bool, cond, ◌≡◌, suc, zero, ℕ, ◌*◌, ◌/◌, ◌<◌, eqb, drop, length, take, Ok}
use mathlib.Core.List.{List, [], flatten, map, ◌++◌, ◌∷◌}
use Prim.Native.Char.{code}
use Rattle.listing.specs.Listing.{ending_text, line_of, listing_of, number_text, runs_text}
use Rattle.machine.specs.Answers.{ending_entered, ending_number}
use Rattle.machine.specs.declared.Ending.{Ending}
use Rattle.machine.specs.Run.{run_of}
use Rattle.machine.specs.declared.Ending.TheVariants as ending
use Rattle.machine.specs.declared.State.{State}
use Rattle.report.specs.Layout.{report_size}
use Rattle.roundtrip.specs.Statement.{GoodState}
use Rattle.text.specs.Text.{ascii, decimal_of}

-- ---- the lines of a text, and the reports of a list of bytes

abbrev pub is_newline : ℕ → Bool
is_newline c = eqb c (code "\n")

-- a text to its first newline, which belongs to the line, and what stands behind it
unfoldable pub first_line : List ℕ → List ℕ
first_line [] = []
first_line (c ∷ cs) = cond (is_newline c) (c ∷ []) (c ∷ first_line cs)

unfoldable pub later_lines : List ℕ → List ℕ
later_lines [] = []
later_lines (c ∷ cs) = cond (is_newline c) cs (later_lines cs)

-- line k of a text, the first being line 0; nothing behind the last
unfoldable pub text_line : ℕ → List ℕ → List ℕ
text_line zero text = first_line text
text_line (suc k) text = text_line k (later_lines text)

-- report k: bytes 12k to 12k + 11
abbrev pub report_at : ℕ → List ℕ → List ℕ
report_at k report = take report_size (drop (report_size * k) report)

-- each of these is a report, of 12 bytes
abbrev pub Reports : List (List ℕ) → Type 0
Reports [] = Unit {0}
Reports (r ∷ rs) = (length r ≡ report_size) × Reports rs

-- ---- the listing of a card that is not refused

-- how many runs a report tells of
abbrev pub runs : List ℕ → ℕ
runs report = length report / report_size

-- `head_line`: its first line is `runs N`
abbrev pub HeadLine : Type 0
HeadLine = (report : List ℕ) → text_line 0 (listing_of (Ok tt) report) ≡ runs_text (runs report)

-- `run_line`: behind it stands the line of each report, in order
abbrev pub RunLine : Type 0
RunLine = (report : List ℕ) (k : ℕ) → k < runs report → text_line (suc k) (listing_of (Ok tt) report) ≡ line_of (report_at k report)

-- `last_Line`: and no other
abbrev pub LastLine : Type 0
LastLine = (report : List ℕ) → text_line (suc (runs report)) (listing_of (Ok tt) report) ≡ []

-- `listing_of_reports`: the same of a list of reports at once
abbrev pub ListingOfReports : Type 0
ListingOfReports = (rs : List (List ℕ)) → Reports rs → listing_of (Ok tt) (flatten rs) ≡ runs_text (length rs) ++ flatten (map line_of rs)

-- ---- the words of a line, by the ending whose numbers a report has

abbrev pub ending_word : Ending → List ℕ
ending_word ending.Spent = ascii "spent"
ending_word (ending.Entered number pc flag) = ascii "entered"
ending_word ending.Halted = ascii "halted"
ending_word ending.Lost = ascii "lost"

-- `ending_text_lem`: the first field is the ending's word
abbrev pub EndingText : Type 0
EndingText = (x : Ending) → ending_text (ending_number x) ≡ ending_word x

-- "number or `-`": the number entered, or `-` where none was
abbrev pub number_word : Ending → List ℕ
number_word ending.Spent = ascii "-"
number_word (ending.Entered number pc flag) = decimal_of 3 number
number_word ending.Halted = ascii "-"
number_word ending.Lost = ascii "-"

-- `number_text_lem`: the second field of a run's line is that, for every run from a good state
abbrev pub NumberText : Type 0
NumberText =
    (n : ℕ) (st : State) (m : List ℕ) → GoodState st → let x : Ending = (run_of n st m).ending in number_text (ending_entered x) ≡ number_word x
