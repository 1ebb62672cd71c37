use Rattle.std.proofs.Common.{length}
use Rattle.stored.proofs.run_all.Given as goal

abbrev pub decreases-loop-case : goal.decreases-loop-case
decreases-loop-case g l = length l.left
