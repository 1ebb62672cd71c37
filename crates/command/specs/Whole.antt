-- A whole command at a position of a card, by the tests that it passed; and what holds of the commands' numbers.
-- Assumes nothing.
use Rattle.std.specs.Prelude.{Bool, cond, false, true, List, ◌≡◌, ℕ, ◌+◌, ◌<◌, eqb, leb, length}
use Rattle.std.proofs.Math.Path.{refl}
use Rattle.std.proofs.Common.{ap, arith}
use borrow.Author.Tests.{eqb-false, eqb-true, leb-false, lt-leb, ne_eqb}
use Rattle.refusal.specs.declared.Cause.TheVariants.{CommandBeyond, CommandShort, CommandUnknown}
use Rattle.endian.specs.Bytes.{byte_from}
use Rattle.command.specs.Command.{Standing, bad, command_of, ends, good_of, operands_of, parsed_of, reads}
use Rattle.command.specs.declared.Command.{Command}
use Rattle.command.specs.declared.Parsed.{Parsed}

-- ---- a whole command

-- the tests that it passed, the command and the position of the next
pub record Whole (at : ℕ) (b : List ℕ) (x : Command) (next : ℕ) : Type 0 where
  pub known : 0 < operands_of (byte_from b 0)
  pub within : operands_of (byte_from b 0) < length b
  pub good : good_of (byte_from b 0) b ≡ true
  pub is : command_of (byte_from b 0) b ≡ x
  pub on : at + (1 + operands_of (byte_from b 0)) ≡ next

module _ (at : ℕ) (b : List ℕ) where
  abbrev pub picked : Bool → Bool → Bool → Bool → Standing
  picked t u v w =
      cond t ends
      (cond u (bad CommandUnknown at)
      (cond v (bad CommandShort at)
      (cond w (reads (command_of (byte_from b 0) b) (at + (1 + operands_of (byte_from b 0)))) (bad CommandBeyond at))))

  whole_by :
      (x : Command) (next : ℕ) (t u v w : Bool) → eqb (operands_of (byte_from b 0)) 0 ≡ u → leb (length b) (operands_of (byte_from b 0)) ≡ v
      → good_of (byte_from b 0) b ≡ w → picked t u v w ≡ reads x next → Whole at b x next
  whole_by x next true u v w eu ev ew e = let z : ◌≡◌ {A = ℕ} 0 1 = cc in absurd (omega arith)
  whole_by x next false true v w eu ev ew e = let z : ◌≡◌ {A = ℕ} 0 1 = cc in absurd (omega arith)
  whole_by x next false false true w eu ev ew e = let z : ◌≡◌ {A = ℕ} 0 1 = cc in absurd (omega arith)
  whole_by x next false false false true eu ev ew e =
      let o : operands_of (byte_from b 0) ≡ 0 → ⊥ = eqb-false _ _ eu in
      let p : ◌≡◌ {A = Parsed} (record { command = command_of (byte_from b 0) b; next = at + (1 + operands_of (byte_from b 0)) })
      (record { command = x; next = next }) = cc in
      record {
        known = omega arith;
        within = leb-false _ _ ev;
        good = ew;
        is = ap (λ (q : Parsed). q.command) p;
        on = ap (λ (q : Parsed). q.next) p;
      }
  whole_by x next false false false false eu ev ew e = let z : ◌≡◌ {A = ℕ} 0 1 = cc in absurd (omega arith)

  pub whole : (x : Command) (next : ℕ) → parsed_of at b ≡ reads x next → Whole at b x next
  unfolding parsed_of
  whole x next e = whole_by x next (eqb (length b) 0) _ _ _ refl refl refl e

  ended_by : (t u v w : Bool) → eqb (length b) 0 ≡ t → picked t u v w ≡ ends → length b ≡ 0
  ended_by true u v w et e = eqb-true _ _ et
  ended_by false true v w et e = let z : ◌≡◌ {A = ℕ} 0 1 = cc in absurd (omega arith)
  ended_by false false true w et e = let z : ◌≡◌ {A = ℕ} 0 1 = cc in absurd (omega arith)
  ended_by false false false true et e = let z : ◌≡◌ {A = ℕ} 0 1 = cc in absurd (omega arith)
  ended_by false false false false et e = let z : ◌≡◌ {A = ℕ} 0 1 = cc in absurd (omega arith)

  -- only nothing is the end
  pub ended : parsed_of at b ≡ ends → length b ≡ 0
  unfolding parsed_of
  ended e =
      ended_by (eqb (length b) 0) (eqb (operands_of (byte_from b 0)) 0) (leb (length b) (operands_of (byte_from b 0))) (good_of (byte_from b 0) b)
      refl e

  -- the tests make a whole command
  pub parsed :
      (n : ℕ) → byte_from b 0 ≡ n → 0 < operands_of n → operands_of n < length b → good_of n b ≡ true
      → parsed_of at b ≡ reads (command_of n b) (at + (1 + operands_of n))
  unfolding parsed_of
  parsed n e known within good =
      rw (
        e,
        ne_eqb (length b) 0 (λ z. omega arith),
        ne_eqb (operands_of n) 0 (λ z. omega arith),
        lt-leb (length b) (operands_of n),
        good,
      )

-- ---- by the number of the command

-- a statement about a number holds if it holds of this one, and of those that are not this one
one : (P : ℕ → Type 0) (k : ℕ) → P k → (n : ℕ) → (eqb n k ≡ false → P n) → P n
one P k p n other = by (eqb n k) refl
  where
    by : (t : Bool) → eqb n k ≡ t → P n
    by true e = rw (eqb-true n k e) p
    by false e = other e

-- what holds of the eight commands' numbers holds of each number that has operands
pub by_number :
    (P : ℕ → Type 0) → P 1 → P 2 → P 3 → P 4 → P 5 → P 6 → P 7 → P 8 → (n : ℕ) → 0 < operands_of n → P n
unfolding operands_of
by_number P p1 p2 p3 p4 p5 p6 p7 p8 n h =
    one P 1 p1 n λ e1. one P 2 p2 n λ e2. one P 3 p3 n λ e3. one P 4 p4 n λ e4.
    one P 5 p5 n λ e5. one P 6 p6 n λ e6. one P 7 p7 n λ e7. one P 8 p8 n λ e8.
    absurd (omega (arith, rw (e1, e2, e3, e4, e5, e6, e7, e8) at h))
