-- `text::Writer::put_decimal` meets its contract. The measure is `k`.
use Rattle.std.specs.Prelude.{◌≡◌, ◌%◌}
use Rattle.text.proofs.Laws.{decimal_last, decimal_more}
use Rattle.text.specs.Text.{decimal_of, digit_of}
use Rattle.text.specs.Writer.{both, none}
use Rattle.text.proofs.Writer.+put_decimal.Goals as goal
use Rattle.text.proofs.Writer.+put_decimal.Goals.{then-n-ge10, else-n-ge10}

pub returns-then-k-eq0 : goal.returns-then-k-eq0
unfolding decimal_of
returns-then-k-eq0 t c = rw c.if-k-eq0.true (none _)

pub returns : goal.returns
returns t c =
    let last : c.digit.result ≡ digit_of (c.args.n % 10) = cc in
    elim c.if-n-ge10.branch [
      | then-n-ge10 w ↦
          rw (decimal_more _ _ c.if-k-eq0.false w.if-n-ge10.true, ← last) (both (rw (← w.self-is) at w.put_decimal.ensures) c.put.ensures)
      | else-n-ge10 w ↦ rw (decimal_last _ _ c.if-k-eq0.false w.if-n-ge10.false, ← last) (rw w.self-is at c.put.ensures)
    ]
