-- `hot::flags::holds` meets its contract.
use mathlib.Core.Path.{refl, ◌≡◌}
use native.Mathlib.Omega.{arith}
use Rattle.hot.specs.Conditions.{by_cases, cases_of}
use Rattle.jump.specs.Jump.{condition_of}
use Rattle.hot.proofs.flags.holds.Goals as goal

pub returns-in-0 : goal.returns-in-0
unfolding cases_of condition_of
returns-in-0 c = rw c.in-0.is (by_cases 0 43690 refl)

pub returns-in-1 : goal.returns-in-1
unfolding cases_of condition_of
returns-in-1 c = rw c.in-1.is (by_cases 1 61680 refl)

pub returns-in-2 : goal.returns-in-2
unfolding cases_of condition_of
returns-in-2 c = rw c.in-2.is (by_cases 2 52428 refl)

pub returns-in-3 : goal.returns-in-3
unfolding cases_of condition_of
returns-in-3 c = rw c.in-3.is (by_cases 3 65280 refl)

pub returns-in-4 : goal.returns-in-4
unfolding cases_of condition_of
returns-in-4 c = rw c.in-4.is (by_cases 4 17425 refl)

pub returns-in-5 : goal.returns-in-5
unfolding cases_of condition_of
returns-in-5 c = rw c.in-5.is (by_cases 5 52275 refl)

pub returns-in-6 : goal.returns-in-6
unfolding cases_of condition_of
returns-in-6 c = rw c.in-6.is (by_cases 6 48110 refl)

pub returns-in-7 : goal.returns-in-7
unfolding cases_of condition_of
returns-in-7 c = rw c.in-7.is (by_cases 7 13260 refl)

pub returns-in-8 : goal.returns-in-8
unfolding cases_of condition_of
returns-in-8 c = rw c.in-8.is (by_cases 8 21845 refl)

pub returns-in-9 : goal.returns-in-9
unfolding cases_of condition_of
returns-in-9 c = rw c.in-9.is (by_cases 9 3855 refl)

pub returns-in-10 : goal.returns-in-10
unfolding cases_of condition_of
returns-in-10 c = rw c.in-10.is (by_cases 10 13107 refl)

pub returns-in-11 : goal.returns-in-11
unfolding cases_of condition_of
returns-in-11 c = rw c.in-11.is (by_cases 11 255 refl)

pub returns-in-12 : goal.returns-in-12
unfolding cases_of condition_of
returns-in-12 c = rw c.in-12.is (by_cases 12 1285 refl)

pub returns-in-13 : goal.returns-in-13
unfolding cases_of condition_of
returns-in-13 c = rw c.in-13.is (by_cases 13 0 refl)

pub returns-in-14 : goal.returns-in-14
unfolding cases_of condition_of
returns-in-14 c = rw c.in-14.is (by_cases 14 64250 refl)

pub returns-in_default : goal.returns-in_default
unfolding cases_of condition_of
returns-in_default c =
    let e : c.args.n ≡ 15 = omega (arith, c.requires) in
    rw e (by_cases 15 65535 refl)
