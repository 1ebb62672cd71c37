-- `hot::Hot::load_flag` meets its contract.
use mathlib.Core.Path.{refl}
use native.Mathlib.Omega.{arith}
use lib.ListN.{length-set}
use borrow.Author.Rules.{rules}
use Rattle.hot.specs.Tells.{flag_held, plain, stop}
use Rattle.hot.proofs.Hot.load_flag.Goals as goal

pub returns-then-d-ge-USP : goal.returns-then-d-ge-USP
returns-then-d-ge-USP c = plain (stop c.stop.ensures refl refl)

pub returns : goal.returns
returns c =
    let low = c.if-d-ge-USP.false in
    flag_held c.requires.1 (omega (arith, low)) (search (rules, c.well_formed)) (rw length-set (search (rules, c.well_formed))) c.plus.ensures
    (omega (arith, c.plus.ensures, c.requires.0)) (rw (c.from.ensures, c.from-2.ensures, c.flags.ensures.0)) refl c.to.ensures
