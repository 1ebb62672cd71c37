-- A part of a list from a position on, put back with other elements.
-- Assumes nothing.
use Rattle.std.specs.Prelude.{List, ◌++◌, ◌≡◌, ℕ, ◌+◌, ◌-◌, drop, length, take}
use Rattle.std.proofs.Common.{append-nil, ap, ◌∙◌, arith, drop_of_length-le, length-drop, drop-drop, take_all}
use borrow.Rule.Slice.PartMut.{mid_of, put_mid}

-- the part from `at` on is what is left there
pub part_is : (at : ℕ) (old : List ℕ) → mid_of at (length old - at) old ≡ drop at old
part_is at old = take_all (length old - at) (drop at old) (omega (arith, length-drop at old))

-- some elements at the front of the part, those behind them kept
pub front_of_part :
    (at n : ℕ) (src old part : List ℕ) → part ≡ src ++ drop n (mid_of at (length old - at) old)
    → put_mid at (length old - at) old part ≡ take at old ++ (src ++ drop (at + n) old)
front_of_part at n src old part p =
    ap (λ (xs : List ℕ). take at old ++ xs)
    (ap (λ (xs : List ℕ). part ++ xs) (drop_of_length-le (drop at old) {i = length old - at} (omega (arith, length-drop at old)))
    ∙ append-nil part
    ∙ p
    ∙ ap (λ (xs : List ℕ). src ++ drop n xs) (part_is at old)
    ∙ ap (λ (xs : List ℕ). src ++ xs) (drop-drop n at old))
