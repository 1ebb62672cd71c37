use mathlib.Core.Path.{◌≡◌}
use Prim.Native.Nat.{◌%◌, ◌*◌, ◌-◌, ◌≤◌}
use Rattle.runner.specs.Goes.{Leads}
use Rattle.runner.proofs.quick.quick.Given as goal

abbrev pub invariant-loop-left : goal.invariant-loop-left
invariant-loop-left l =
    Leads l.top l.map l.initial.regs l.initial.mem l.initial.hot (l.allowance - l.left) l.states l.regs l.mem l.hot × (l.left ≤ l.allowance)
    × (l.states ≤ 65535 * (l.allowance - l.left)) × (l.hot.pc % 2 ≡ 0)

abbrev pub decreases-loop-left : goal.decreases-loop-left
decreases-loop-left l = l.left
