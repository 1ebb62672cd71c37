use Rattle.std.specs.Prelude.{◌≡◌, take}
use Rattle.load.specs.Load.{load_of}
use Rattle.load.proofs.window.load_of.Given as goal

abbrev pub invariant-loop-tick : goal.invariant-loop-tick
invariant-loop-tick l = l.load ≡ load_of (take l.tick-index l.records)
