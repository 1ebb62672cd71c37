use Prim.Native.Nat.{◌-◌, ◌≤◌}
use Rattle.machine.proofs.Turn.{Reached}
use Rattle.runner.proofs.runs.run.Given as goal

abbrev pub invariant-loop-maps : goal.invariant-loop-maps
invariant-loop-maps l =
    Reached l.through l.allowance l.initial.state l.initial.mem l.state l.mem l.steps l.states × (l.spare ≤ l.allowance - l.steps)

abbrev pub decreases-loop-maps : goal.decreases-loop-maps
decreases-loop-maps l = l.allowance - l.steps
