-- Laws of the definitions of a card.
-- Assumes nothing.
use Rattle.std.specs.Prelude.{List, [], ◌++◌, ◌∷◌, refl, ◌≡◌, ℕ, ◌*◌, ◌≤◌, length, take, Err, Ok}
use Rattle.std.proofs.Common.{ap, sym, ◌∙◌, arith, length-append, length-take-le, take_at}
use Rattle.call.specs.Call.{Answer, Buffers, Call, buffers, called, given_by, unless_refused}
use Rattle.image.specs.Decode.{state_from}
use Rattle.endian.specs.Bytes.{word_bytes}
use Rattle.report.specs.Layout.{report_size}
use Rattle.report.specs.Report.{report_of}
use Rattle.refusal.specs.Refusal.{Validity}
use Rattle.machine.specs.declared.State.{State}
use Rattle.card.specs.Call.{card_call, card_valid, executed_call, filled_part, if_good}
use Rattle.command.specs.Card.{is_run, reading_of, runs_in}
use Rattle.command.specs.Laws.{runs_bound}
use Rattle.card.specs.Effect.{Effect, effect_of, execute_of}
use Rattle.command.specs.declared.Command.{Command}
use Rattle.command.specs.declared.Command.TheVariants.{Byte, Entry, Flag, Lines, Mmu, Register, Run, Time}

-- ---- reports

-- a run's report has 12 bytes, and no other command writes any
pub reports_long : (x : Command) (st : State) (m : List ℕ) → length (effect_of x st m).reports ≡ report_size * is_run x
unfolding effect_of report_of word_bytes
reports_long (Byte a v) st m = refl
reports_long (Register n v) st m = refl
reports_long (Lines lines v) st m = refl
reports_long (Run n) st m = refl
reports_long (Entry k bits) st m = refl
reports_long (Mmu on) st m = refl
reports_long (Flag w) st m = refl
reports_long (Time ms) st m = refl

-- the reports of some commands
pub all_reports_long : (xs : List Command) (st : State) (m : List ℕ) → length (execute_of xs st m).reports ≡ report_size * runs_in xs
unfolding execute_of runs_in
all_reports_long [] st m = refl
all_reports_long (x ∷ xs) st m =
    let done : Effect = effect_of x st m in
    length-append done.reports (execute_of xs done.state done.memory).reports
    ∙ omega (arith, reports_long x st m, all_reports_long xs done.state done.memory)

-- ---- the answer and the part that is handed back

in_front : (xs ys : List ℕ) (n : ℕ) → length xs ≡ n → (n ≤ length (xs ++ ys)) × (take n (xs ++ ys) ≡ xs)
in_front xs ys n e = (omega (arith, length-append xs ys), take_at xs ys n e)

-- a call by what its tests say
abbrev call_by : Validity → List ℕ → List ℕ → List ℕ → ℕ → Effect → Call
call_by v m b rep n p = unless_refused v (buffers m b rep) (executed_call n p rep)

handed_by :
    (v : Validity) (m b rep : List ℕ) (n : ℕ) (p : Effect) → length p.reports ≡ n → let c : Call = call_by v m b rep n p in
    (given_by c.answer ≤ length c.lent.report) × (take (given_by c.answer) c.lent.report ≡ if_good v p.reports)
handed_by (Err r) m b rep n p e = (omega arith, refl)
handed_by (Ok u) m b rep n p e = in_front p.reports _ n e

-- the part that the answer says is filled is within the report, and holds the reports
module _ (m b card rep : List ℕ) where
  handed :
      let c : Call = card_call m b card rep in
      (given_by c.answer ≤ length c.lent.report) × (take (given_by c.answer) c.lent.report ≡ filled_part m b card rep)
  unfolding card_call filled_part
  handed =
      handed_by (card_valid (length m) b card (length rep)) m b rep (report_size * runs_in (reading_of card).commands)
      (execute_of (reading_of card).commands (state_from b) m) (all_reports_long (reading_of card).commands (state_from b) m)

  -- of a call that has been made: its answer, what it left, and the number that it gave
  module _ (answer : Answer) (left : Buffers) (filled : ℕ) (did : called answer left ≡ card_call m b card rep) (f : filled ≡ given_by answer) where
    given_is : filled ≡ given_by (card_call m b card rep).answer
    given_is = f ∙ ap (λ (c : Call). given_by c.answer) did

    report_is : left.report ≡ (card_call m b card rep).lent.report
    report_is = ap (λ (c : Call). c.lent.report) did

    pub part_long : filled ≡ length (take filled left.report)
    part_long = sym (length-take-le filled left.report (rw (given_is, report_is) handed.0))

    pub part_holds : take filled left.report ≡ filled_part m b card rep
    part_holds = rw (given_is, report_is) handed.1

part_short_by : (v : Validity) (bytes : List ℕ) (n : ℕ) → length bytes ≤ n → length (if_good v bytes) ≤ n
part_short_by (Err r) bytes n h = omega arith
part_short_by (Ok u) bytes n h = h

-- a part holds at most 1,365 reports
pub part_short : (m b card rep : List ℕ) → length (filled_part m b card rep) ≤ 16380
unfolding filled_part
part_short m b card rep =
    part_short_by (card_valid (length m) b card (length rep)) (execute_of (reading_of card).commands (state_from b) m).reports 16380
    (omega (arith, all_reports_long (reading_of card).commands (state_from b) m, runs_bound card))
