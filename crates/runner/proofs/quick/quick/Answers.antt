-- `runner::quick::quick` meets its contract.
use mathlib.Core.Path.{◌≡◌}
use Prim.Native.Nat.{◌+◌, ◌-◌}
use native.Mathlib.Omega.{arith}
use Rattle.runner.specs.Goes.{no_more, no_step, one_more}
use Rattle.hot.specs.Tells.{Told, evened, plain, small}
use Rattle.runner.proofs.quick.quick.Goals as goal
use Rattle.runner.proofs.quick.quick.Goals.{else-byte-lt-HIGH, else-loop-left-test, then-byte-lt-HIGH, then-loop-left-test+else-w-ge-NONE+then-hot-eq0, then-loop-left-test+then-w-ge-NONE}

pub loop-left-init : goal.loop-left-init
loop-left-init c =
    let e : c.args.allowance - c.args.allowance ≡ 0 = omega arith in
    (rw e no_step, omega arith, omega arith, c.requires)

pub fetch-w-requires : goal.fetch-w-requires
fetch-w-requires c = c.loop-left.invariant.3

pub overflow_cast-byte : goal.overflow_cast-byte
overflow_cast-byte c = omega (arith, c.if-w-ge-NONE.false)

pub low-hot-requires : goal.low-hot-requires
low-hot-requires c = (c.loop-left.invariant.3, omega arith)

pub high-hot-requires : goal.high-hot-requires
high-hot-requires c = (c.loop-left.invariant.3, omega arith)

pub overflow_add-states : goal.overflow_add-states
overflow_add-states c =
    let tells : Told c.args.top c.args.map.now c.loop-left.regs c.loop-left.mem c.loop-left.hot c.fetch-w.result c.if-byte-lt-HIGH.regs c.if-byte-lt-HIGH.mem c.if-byte-lt-HIGH.hot =
    elim c.if-byte-lt-HIGH.branch [
      | then-byte-lt-HIGH w ↦ rw (w.regs-is, w.mem-is, w.hot-is) w.low-hot.ensures
      | else-byte-lt-HIGH w ↦ rw (w.regs-is, w.mem-is, w.hot-is) (plain w.high-hot.ensures)
    ] in
    omega (arith, small tells, c.loop-left.invariant.2, c.loop-left.invariant.1)

pub loop-left-preserved : goal.loop-left-preserved
loop-left-preserved c =
    let l = c.loop-left in
    let tells : Told c.args.top c.args.map.now c.loop-left.regs c.loop-left.mem c.loop-left.hot c.fetch-w.result c.if-byte-lt-HIGH.regs c.if-byte-lt-HIGH.mem c.if-byte-lt-HIGH.hot =
    elim c.if-byte-lt-HIGH.branch [
      | then-byte-lt-HIGH w ↦ rw (w.regs-is, w.mem-is, w.hot-is) w.low-hot.ensures
      | else-byte-lt-HIGH w ↦ rw (w.regs-is, w.mem-is, w.hot-is) (plain w.high-hot.ensures)
    ] in
    let read = c.fetch-w.ensures c.if-w-ge-NONE.false in
    let e : c.args.allowance - (l.left - 1) ≡ c.args.allowance - l.left + 1 = omega (arith, l.invariant.1, c.loop-left-test.true) in (
      rw e (one_more l.invariant.0 read tells c.if-hot-eq0.false),
      omega (arith, l.invariant.1),
      rw e (omega (arith, small tells, l.invariant.2)),
      evened l.invariant.3 tells,
    )

pub overflow_cast-steps : goal.overflow_cast-steps
overflow_cast-steps c = omega (arith, c.loop-left.invariant.1)

pub overflow_sub-steps : goal.overflow_sub-steps
overflow_sub-steps c = omega (arith, c.loop-left.invariant.1)

pub returns : goal.returns
returns c =
    let l = c.loop-left in
    elim c.loop-left-test.branch [
      | else-loop-left-test w ↦ record {
        leads = rw (w.regs-is, w.mem-is, w.hot-is) l.invariant.0;
        steps = omega (arith, l.invariant.1);
      }
      | then-loop-left-test+then-w-ge-NONE w ↦ record {
        leads = rw (w.regs-is, w.mem-is, w.hot-is) l.invariant.0;
        steps = omega (arith, l.invariant.1);
      }
      | then-loop-left-test+else-w-ge-NONE+then-hot-eq0 w ↦
          let tells : Told c.args.top c.args.map.now c.loop-left.regs c.loop-left.mem c.loop-left.hot w.fetch-w.result w.if-byte-lt-HIGH.regs w.if-byte-lt-HIGH.mem w.if-byte-lt-HIGH.hot =
          elim w.if-byte-lt-HIGH.branch [
            | then-byte-lt-HIGH w' ↦ rw (w'.regs-is, w'.mem-is, w'.hot-is) w'.low-hot.ensures
            | else-byte-lt-HIGH w' ↦ rw (w'.regs-is, w'.mem-is, w'.hot-is) (plain w'.high-hot.ensures)
          ] in
          record {
            leads = rw (w.regs-is, w.mem-is, w.hot-is) (no_more l.invariant.0 tells w.if-hot-eq0.true);
            steps = omega (arith, l.invariant.1);
          }
    ]
