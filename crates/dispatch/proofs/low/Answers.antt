-- `dispatch::low` meets its contract.
use Rattle.hot.specs.Tells.{plain}
use borrow.Author.Rules.{rules}
use Rattle.dispatch.proofs.low.Goals as goal

pub returns-in-0 : goal.returns-in-0
returns-in-0 c = plain (search rules)

pub returns-in-16 : goal.returns-in-16
returns-in-16 c = plain (search rules)

pub returns-in-17 : goal.returns-in-17
returns-in-17 c = plain (search rules)

pub returns-in-19 : goal.returns-in-19
returns-in-19 c = plain (search rules)

pub returns-in-22 : goal.returns-in-22
returns-in-22 c = plain (search rules)

pub returns-in-23 : goal.returns-in-23
returns-in-23 c = plain (search rules)

pub returns-in-8 : goal.returns-in-8
returns-in-8 c = plain (search rules)

pub returns-in-9 : goal.returns-in-9
returns-in-9 c = plain (search rules)

pub returns-in-10 : goal.returns-in-10
returns-in-10 c = plain (search rules)

pub returns-in-11 : goal.returns-in-11
returns-in-11 c = plain (search rules)

pub returns-in-12 : goal.returns-in-12
returns-in-12 c = plain (search rules)

pub returns-in-13 : goal.returns-in-13
returns-in-13 c = plain (search rules)

pub returns-in-14 : goal.returns-in-14
returns-in-14 c = plain (search rules)

pub returns-in-15 : goal.returns-in-15
returns-in-15 c = plain (search rules)

pub returns-in-24 : goal.returns-in-24
returns-in-24 c = plain (search rules)

pub returns-in-25 : goal.returns-in-25
returns-in-25 c = plain (search rules)

pub returns-in-26 : goal.returns-in-26
returns-in-26 c = plain (search rules)

pub returns-in-27 : goal.returns-in-27
returns-in-27 c = plain (search rules)

pub returns-in-28 : goal.returns-in-28
returns-in-28 c = plain (search rules)

pub returns-in-29 : goal.returns-in-29
returns-in-29 c = plain (search rules)

pub returns-in-30 : goal.returns-in-30
returns-in-30 c = plain (search rules)

pub returns-in-31 : goal.returns-in-31
returns-in-31 c = plain (search rules)

pub returns-in_default : goal.returns-in_default
returns-in_default c = plain (search rules)
