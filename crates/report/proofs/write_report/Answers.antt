-- `report::write_report` meets its contract.
use mathlib.Core.List.{List}
use mathlib.Core.Path.{◌∙◌, ◌≡◌}
use Prim.Native.Nat.{ℕ, ◌/◌, ◌%◌}
use native.Mathlib.Omega.{arith}
use lib.Seq.{sets, sets-eq}
use Rattle.endian.specs.Bytes.{word_bytes}
use Rattle.report.specs.Report.{report_of}
use Rattle.report.proofs.write_report.Goals as goal

pub returns : goal.returns
unfolding report_of word_bytes
returns c =
    let old : List ℕ = c.args.report.now in
    let states : ℕ = c.args.states in
    let all : List ℕ = report_of c.args.ending c.args.pc c.args.flag c.args.steps states in
    let first : states / 65536 / 256 % 256 ≡ states / 16777216 % 256 = omega arith in
    let third : states % 65536 / 256 % 256 ≡ states / 256 % 256 = omega arith in
    let fourth : states % 65536 % 256 ≡ states % 256 = omega arith in
    let stored : c.put_word-3.new.bytes ≡ sets old 0 all =
    c.put_word-3.ensures
    ∙ rw (
      c.put_word-2.ensures,
      c.put_bytes.ensures,
      c.put_word.ensures,
      c.to_be_bytes.ensures,
      c.shown-number.ensures,
      c.ending_number.ensures,
      first,
      third,
      fourth,
    ) in
    stored ∙ sets-eq all old 0 (omega arith)
