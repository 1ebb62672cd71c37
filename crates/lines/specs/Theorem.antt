-- The lines of a listing, for every report, and the words in them.
-- Assumes nothing.
use Rattle.std.specs.Prelude.{Bool, not, true, ◌&&◌, ◌≡◌, suc, zero, ℕ, ◌%◌, ◌*◌, ◌+◌, ◌-◌, ◌/◌, ◌<◌, eqb, ltb, drop, get_or, length, take, Ok}
use mathlib.Core.List.{List, [], append_assoc, flatten, map, ◌++◌, ◌∷◌}
use Rattle.std.proofs.Common.{ap, sym, ◌∙◌, arith, ne_eqb, length-append, drop_at, drop-drop, take_at}
use Rattle.std.proofs.Math.Path.{refl}
use Rattle.std.proofs.lemmas.Bool.{not-true}
use Rattle.report.specs.Layout.{ending_at, flag_at, number_at, pc_at, report_size, states_at, steps_at}
use Rattle.endian.specs.Bytes.{word_from}
use Rattle.word.specs.Cases.{both, either, rest, this}
use Rattle.listing.proofs.Whole.{line_front}
use Rattle.listing.specs.Listing.{counts_text, ending_text, line_of, lines_of, listing_of, newline, number_text, outcome_text, runs_text, space}
use Rattle.text.specs.Text.{ascii, decimal_of, digit_of, hex_of}
use Rattle.machine.specs.Answers.{ending_entered}
use Rattle.machine.specs.Run.{run_of}
use Rattle.machine.specs.declared.Ending.{Ending}
use Rattle.machine.specs.declared.Ending.TheVariants as ending
use Rattle.machine.specs.declared.State.{State}
use Rattle.readers.proofs.Shown.{run_number}
use Rattle.roundtrip.specs.Statement.{GoodState}
use Rattle.lines.specs.Statement.{EndingText, HeadLine, LastLine, ListingOfReports, NumberText, Reports, RunLine}
use Rattle.lines.specs.Statement.{first_line, is_newline, later_lines, number_word, runs, text_line}

-- ---- a line has one newline, at its end

unfoldable unbroken : List ℕ → Bool
unbroken [] = true
unbroken (c ∷ cs) = not (is_newline c) && unbroken cs

abbrev Unbroken : List ℕ → Type 0
Unbroken text = unbroken text ≡ true

record IsLine (line : List ℕ) : Type 0 where
  words : List ℕ
  whole : Unbroken words
  ended : line ≡ words ++ newline

unbroken_both : (a b : List ℕ) → Unbroken a → Unbroken b → Unbroken (a ++ b)
unfolding unbroken
unbroken_both [] b p q = q
unbroken_both (c ∷ cs) b p q =
    both (not (is_newline c)) (unbroken (cs ++ b)) (this (not (is_newline c)) (unbroken cs) p)
    (unbroken_both cs b (rest (not (is_newline c)) (unbroken cs) p) q)

-- more words in front
before : (a : List ℕ) {line : List ℕ} → Unbroken a → IsLine line → IsLine (a ++ line)
before a p l =
    record {
      words = a ++ l.words;
      whole = unbroken_both a l.words p l.whole;
      ended = ap (λ (x : List ℕ). a ++ x) l.ended ∙ sym (append_assoc a l.words newline);
    }

end_line : IsLine newline
unfolding unbroken
end_line = record { words = []; whole = refl; ended = refl }

-- the first line of a text that begins with a line, and the others
first_of : (words text : List ℕ) → Unbroken words → first_line ((words ++ newline) ++ text) ≡ words ++ newline
unfolding first_line unbroken
first_of [] text p = refl
first_of (c ∷ cs) text p =
    rw (not-true (is_newline c) (this (not (is_newline c)) (unbroken cs) p), first_of cs text (rest (not (is_newline c)) (unbroken cs) p))

later_of : (words text : List ℕ) → Unbroken words → later_lines ((words ++ newline) ++ text) ≡ text
unfolding later_lines unbroken
later_of [] text p = refl
later_of (c ∷ cs) text p =
    rw (not-true (is_newline c) (this (not (is_newline c)) (unbroken cs) p)) (later_of cs text (rest (not (is_newline c)) (unbroken cs) p))

first_line_lem : {line : List ℕ} (text : List ℕ) → IsLine line → first_line (line ++ text) ≡ line
first_line_lem text l = rw l.ended (first_of l.words text l.whole)

later_lines_lem : {line : List ℕ} (text : List ℕ) → IsLine line → later_lines (line ++ text) ≡ text
later_lines_lem text l = rw l.ended (later_of l.words text l.whole)

-- ---- the words of a listing

digit_unbroken : (d : ℕ) → Unbroken (digit_of d ∷ [])
unfolding unbroken
digit_unbroken d =
    either (λ (c : ℕ). Unbroken (c ∷ [])) (ltb d 10) (λ _. rw (ne_eqb (48 + d) 10 (λ e. omega arith)))
    (λ _. rw (ne_eqb (65 + (d - 10)) 10 (λ e. omega arith)))

decimal_unbroken : (k n : ℕ) → Unbroken (decimal_of k n)
unfolding decimal_of unbroken
decimal_unbroken zero n = refl
decimal_unbroken (suc k) n =
    either Unbroken (ltb n 10) (λ _. digit_unbroken n)
    (λ _. unbroken_both (decimal_of k (n / 10)) (digit_of (n % 10) ∷ []) (decimal_unbroken k (n / 10)) (digit_unbroken (n % 10)))

hex_unbroken : (w : ℕ) → Unbroken (hex_of w)
unfolding hex_of
hex_unbroken w =
    unbroken_both _ _ (digit_unbroken (w / 4096 % 16))
    (unbroken_both _ _ (digit_unbroken (w / 256 % 16)) (unbroken_both _ _ (digit_unbroken (w / 16 % 16)) (digit_unbroken (w % 16))))

ending_unbroken : (n : ℕ) → Unbroken (ending_text n)
unfolding ending_text unbroken
ending_unbroken n =
    either Unbroken (eqb n 0) (λ _. refl)
    (λ _. either Unbroken (eqb n 1) (λ _. refl)
    (λ _. either Unbroken (eqb n 2) (λ _. refl) (λ _. refl)))

number_unbroken : (n : ℕ) → Unbroken (number_text n)
unfolding number_text unbroken
number_unbroken n = either Unbroken (eqb n 255) (λ _. refl) (λ _. decimal_unbroken 3 n)

-- two words, each with a space behind it
two_unbroken : (x y : List ℕ) → Unbroken x → Unbroken y → Unbroken (x ++ (space ++ (y ++ space)))
unfolding unbroken
two_unbroken x y p q = unbroken_both x (space ++ (y ++ space)) p (unbroken_both space (y ++ space) refl (unbroken_both y space q refl))

line_is_line : (r : List ℕ) → IsLine (line_of r)
unfolding line_of unbroken
line_is_line r =
    let states : ℕ = word_from r states_at * 65536 + word_from r (states_at + 2) in
    before (outcome_text r) (two_unbroken (ending_text (get_or r ending_at 0)) (number_text (get_or r number_at 0)) (ending_unbroken _) (number_unbroken _))
    (before (counts_text r) (two_unbroken (decimal_of 5 (word_from r steps_at)) (decimal_of 10 states) (decimal_unbroken 5 _) (decimal_unbroken 10 states))
    (before (hex_of (word_from r pc_at)) (hex_unbroken (word_from r pc_at))
    (before space refl
    (before (hex_of (word_from r flag_at)) (hex_unbroken (word_from r flag_at)) end_line))))

runs_is_line : (n : ℕ) → IsLine (runs_text n)
unfolding runs_text unbroken
runs_is_line n = before (ascii "runs ") refl (before (decimal_of 20 n) (decimal_unbroken 20 n) end_line)

-- ---- the lines of a report

lines_at : (n : ℕ) (r : List ℕ) (k : ℕ) → k < n → text_line k (lines_of n r) ≡ line_of (drop (report_size * k) r)
unfolding lines_of text_line
lines_at zero r k h = absurd (omega arith)
lines_at (suc n) r zero h = first_line_lem (lines_of n (drop report_size r)) (line_is_line r)
lines_at (suc n) r (suc k) h =
    let on : report_size + report_size * k ≡ report_size * suc k = omega arith in
    ap (text_line k) (later_lines_lem (lines_of n (drop report_size r)) (line_is_line r))
    ∙ lines_at n (drop report_size r) k (omega arith)
    ∙ ap line_of (drop-drop (report_size * k) report_size r)
    ∙ ap (λ (i : ℕ). line_of (drop i r)) on

no_more : (n : ℕ) (r : List ℕ) → text_line n (lines_of n r) ≡ []
unfolding lines_of text_line first_line
no_more zero r = refl
no_more (suc n) r =
    ap (text_line n) (later_lines_lem (lines_of n (drop report_size r)) (line_is_line r)) ∙ no_more n (drop report_size r)

-- ---- the listing

listed : (report : List ℕ) → listing_of (Ok tt) report ≡ runs_text (runs report) ++ lines_of (runs report) report
unfolding listing_of
listed report = refl

behind : (report : List ℕ) → later_lines (listing_of (Ok tt) report) ≡ lines_of (runs report) report
behind report = ap later_lines (listed report) ∙ later_lines_lem (lines_of (runs report) report) (runs_is_line (runs report))

pub head_line : HeadLine
unfolding text_line
head_line report = ap first_line (listed report) ∙ first_line_lem (lines_of (runs report) report) (runs_is_line (runs report))

pub run_line : RunLine
unfolding text_line
run_line report k h = ap (text_line k) (behind report) ∙ lines_at (runs report) report k h ∙ sym (line_front (drop (report_size * k) report))

pub last_line : LastLine
unfolding text_line
last_line report = ap (text_line (runs report)) (behind report) ∙ no_more (runs report) report

-- ---- the listing of a list of reports

all_long : (rs : List (List ℕ)) → Reports rs → length (flatten rs) ≡ report_size * length rs
unfolding flatten
all_long [] h = refl
all_long (r ∷ rs) h = length-append r (flatten rs) ∙ omega (arith, h.0, all_long rs h.1)

all_lines : (rs : List (List ℕ)) → Reports rs → lines_of (length rs) (flatten rs) ≡ flatten (map line_of rs)
unfolding lines_of flatten
all_lines [] h = refl
all_lines (r ∷ rs) h =
    let front : line_of (r ++ flatten rs) ≡ line_of r =
    sym (line_front (r ++ flatten rs)) ∙ ap line_of (take_at r (flatten rs) report_size h.0) in
    rw (front, drop_at r (flatten rs) report_size h.0, all_lines rs h.1)

pub listing_of_reports : ListingOfReports
listing_of_reports rs h =
    let count : runs (flatten rs) ≡ length rs = omega (arith, all_long rs h) in
    listed (flatten rs) ∙ rw (count, all_lines rs h)

-- ---- the words of a line

pub ending_text_lem : EndingText
unfolding ending_text
ending_text_lem ending.Spent = refl
ending_text_lem (ending.Entered number pc flag) = refl
ending_text_lem ending.Halted = refl
ending_text_lem ending.Lost = refl

module _ (n : ℕ) (st : State) (m : List ℕ) (g : GoodState st) where
  number_by : (x : Ending) → (run_of n st m).ending ≡ x → number_text (ending_entered x) ≡ number_word x
  unfolding number_text
  number_by ending.Spent e = refl
  number_by (ending.Entered number pc flag) e = rw (ne_eqb number 255 (λ q. omega (arith, run_number n st m number pc flag g e)))
  number_by ending.Halted e = refl
  number_by ending.Lost e = refl

  word_of_number : let x : Ending = (run_of n st m).ending in number_text (ending_entered x) ≡ number_word x
  word_of_number = number_by (run_of n st m).ending refl

pub number_text_lem : NumberText
number_text_lem = word_of_number
