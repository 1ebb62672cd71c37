-- Laws of the timers' ports, of a millisecond, and of lines.
-- Assumes nothing.
use Rattle.std.specs.Prelude.{Bool, cond, false, true, ◌||◌, ◌≡◌, ℕ, ◌+◌, ◌<◌, eqb}
use Rattle.std.proofs.Common.{◌∙◌, arith, leb-false}
use Rattle.std.specs.Int.Bits.{bit_or, or_self, or_zero_l, or_zero_r}
use Rattle.word.specs.Bits.{or_exchange}
use Rattle.word.specs.Cases.{either}
use Rattle.timer.specs.Port.{after_in_at, after_out_at, control_port, control_set, fired_cleared, period_set}
use Rattle.timer.specs.Time.{counted, counts, fires, lines_of, ticked}
use Rattle.timer.specs.declared.Timer.{Timer}

-- what is shown of each way that a port may go holds of it
module _ (P : Timer → Type 0) (first : ℕ) (t : Timer) (port : ℕ) (p : P t) where
  pub in_by : P (fired_cleared t) → P (after_in_at first t port)
  unfolding after_in_at
  in_by c = either P (eqb port (control_port first)) (λ _. c) (λ _. p)

  pub out_by : (v : ℕ) → P (period_set t v) → P (control_set t v) → P (after_out_at first t port v)
  unfolding after_out_at
  out_by v n c = either P (eqb port first) (λ _. n) (λ _. either P (eqb port (control_port first)) (λ _. c) (λ _. p))

-- ---- a millisecond

-- what is shown of each way that a millisecond may go holds of it
pub tick_by :
    (P : Timer → Type 0) (t : Timer) → P t → P (counted t 0 true) → (t.count + 1 < t.period → P (counted t (t.count + 1) t.fired))
    → P (ticked t)
unfolding ticked fires
tick_by P t p f c =
    either P (fires t) (λ _. f)
    (λ q. either P (counts t) (λ on. c (leb-false _ _ (rw on at q))) (λ _. p))

-- ---- lines

-- a line that is raised in one of two times is raised in both together
or_raised : (a c : Bool) (line : ℕ) → bit_or (cond a line 0) (cond c line 0) ≡ cond (a || c) line 0
or_raised true true line = or_self line
or_raised true false line = or_zero_r line
or_raised false c line = or_zero_l (cond c line 0)

-- so too of the lines of both timers
pub or_lines : (a b c d : Bool) → bit_or (lines_of a b) (lines_of c d) ≡ lines_of (a || c) (b || d)
unfolding lines_of
or_lines a b c d =
    or_exchange (cond a 1 0) (cond b 2 0) (cond c 1 0) (cond d 2 0) ∙ rw (or_raised a c 1, or_raised b d 2)

-- lines 0 and 1
pub lines_small : (a b : Bool) → lines_of a b < 4
unfolding lines_of
lines_small true true = omega arith
lines_small true false = omega arith
lines_small false true = omega arith
lines_small false false = omega arith
