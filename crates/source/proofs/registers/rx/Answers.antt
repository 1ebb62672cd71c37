-- `source::registers::rx` meets its contract: for every number but 15 the value is the register's, and 15 is no register here.
use Prim.Native.Nat.{◌%◌}
use native.Mathlib.Omega.{arith}
use borrow.Author.Tests.{eq-eqb, ne_eqb}
use Rattle.source.specs.Fields.{register_read, rx_value}
use Rattle.source.proofs.registers.rx.Goals as goal

pub returns-then-x-lt-NONE : goal.returns-then-x-lt-NONE
unfolding rx_value
returns-then-x-lt-NONE c =
    let r = register_read c.register-x.ensures c.if-x-lt-NONE.true in
    rw (c.register-x.ensures, ne_eqb (c.args.w % 16) 15 (λ q. omega (arith, r.low)))

pub returns-then-w-eq-PC : goal.returns-then-w-eq-PC
unfolding rx_value
returns-then-w-eq-PC c = rw (c.wide.ensures, eq-eqb _ 15 c.if-w-eq-PC.true)

pub returns : goal.returns
unfolding rx_value
returns c = rw (c.register-x.ensures, ne_eqb _ 15 c.if-w-eq-PC.false)
