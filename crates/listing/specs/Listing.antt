-- The listing of a bench card. Document 01, "Bench card and its listing": "Fields: ending, number or `-`, steps, states, PC, FLAG (four digits,
-- capitals). A refusal prints only `refused N P`."
-- Assumes nothing.
use Rattle.std.specs.Prelude.{cond, List, [], ◌++◌, suc, zero, ℕ, ◌*◌, ◌+◌, ◌/◌, eqb, drop, get_or, length, take, Err, Ok}
use Rattle.report.specs.Layout.{ending_at, flag_at, number_at, pc_at, report_size, states_at, steps_at}
use Rattle.endian.specs.Bytes.{word_from}
use Rattle.refusal.specs.Refusal.{Validity, cause_number}
use Rattle.text.specs.Text.{ascii, decimal_of, hex_of}

abbrev pub space : List ℕ
space = ascii " "

abbrev pub newline : List ℕ
newline = ascii "\n"

-- `spent`, `entered`, `halted` or `lost`, by "ending (0 spent, 1 entered, 2 halted, 3 lost)"
unfoldable pub ending_text : ℕ → List ℕ
ending_text n = cond (eqb n 0) (ascii "spent") (cond (eqb n 1) (ascii "entered") (cond (eqb n 2) (ascii "halted") (ascii "lost")))

-- "number or `-`", where FFh is no number; a byte has at most 3 decimal digits
unfoldable pub number_text : ℕ → List ℕ
number_text n = cond (eqb n 255) (ascii "-") (decimal_of 3 n)

-- "ending, number or `-`", from the 12 bytes at the front of a report
abbrev pub outcome_text : List ℕ → List ℕ
outcome_text r = ending_text (get_or r ending_at 0) ++ (space ++ (number_text (get_or r number_at 0) ++ space))

-- "steps, states": a word has at most 5 decimal digits, 32 bits 10
abbrev pub counts_text : List ℕ → List ℕ
counts_text r =
    decimal_of 5 (word_from r steps_at)
    ++ (space ++ (decimal_of 10 (word_from r states_at * 65536 + word_from r (states_at + 2)) ++ space))

-- "PC, FLAG (four digits, capitals)"
abbrev pub registers_text : List ℕ → List ℕ
registers_text r = hex_of (word_from r pc_at) ++ (space ++ (hex_of (word_from r flag_at) ++ newline))

-- the line of a run
unfoldable pub line_of : List ℕ → List ℕ
line_of r = outcome_text r ++ (counts_text r ++ registers_text r)

-- the lines of the first `n` runs of a report
unfoldable pub lines_of : ℕ → List ℕ → List ℕ
lines_of zero r = []
lines_of (suc n) r = line_of r ++ lines_of n (drop report_size r)

-- `runs N`; 64 bits have at most 20 decimal digits
unfoldable pub runs_text : ℕ → List ℕ
runs_text n = ascii "runs " ++ (decimal_of 20 n ++ newline)

-- `refused N P`
unfoldable pub refused_text : ℕ → ℕ → List ℕ
refused_text n p = ascii "refused " ++ (decimal_of 10 n ++ (space ++ (decimal_of 10 p ++ newline)))

-- the listing of a card, by what the tests of its call say and the part of the report that it filled
unfoldable pub listing_of : Validity → List ℕ → List ℕ
listing_of (Err r) report = refused_text (cause_number r.cause) r.place
listing_of (Ok u) report = runs_text (length report / report_size) ++ lines_of (length report / report_size) report

-- a text written over the front of a buffer, and cut where the buffer ends
abbrev pub over : List ℕ → List ℕ → List ℕ
over buffer text = take (length buffer) text ++ drop (length text) buffer
