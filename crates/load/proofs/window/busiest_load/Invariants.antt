use Rattle.load.proofs.Sliding.{Sliding}
use Rattle.load.proofs.window.busiest_load.Given as goal

abbrev pub invariant-loop-start : goal.invariant-loop-start
invariant-loop-start l = Sliding l.records l.width l.load l.most l.start
