use Rattle.std.proofs.Common.{length, ◌-◌}
use Rattle.input.specs.Input.{Front}
use Rattle.input.proofs.read_input.Given as goal

abbrev pub invariant-loop-count : goal.invariant-loop-count
invariant-loop-count g l = Front l.initial.buffer l.buffer l.count

abbrev pub decreases-loop-count : goal.decreases-loop-count
decreases-loop-count g l = length l.initial.buffer - l.count
