-- `source::registers::register` meets its contract.
use Prim.Native.Nat.{◌%◌}
use native.Mathlib.Omega.{arith}
use borrow.Author.Tests.{le-ltb, lt-ltb}
use Rattle.source.specs.Fields.{register_value}
use Rattle.source.proofs.registers.register.Goals as goal

pub returns-then-k-lt-USP : goal.returns-then-k-lt-USP
unfolding register_value
returns-then-k-lt-USP c = rw (c.wide.ensures, lt-ltb (c.args.n % 16) 14 (omega arith))

pub returns : goal.returns
unfolding register_value
returns c = rw (le-ltb (c.args.n % 16) 14 (omega arith))
