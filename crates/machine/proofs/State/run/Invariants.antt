use Rattle.std.proofs.Common.{false}
use Rattle.machine.proofs.Turn.{Reached}
use Rattle.machine.proofs.State.run.Given as goal

abbrev pub invariant-loop-steps : goal.invariant-loop-steps
invariant-loop-steps l = Reached false l.allowance l.initial.state l.initial.mem l.state l.mem l.steps l.states
