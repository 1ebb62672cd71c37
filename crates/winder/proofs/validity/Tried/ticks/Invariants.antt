use mathlib.Core.Path.{◌≡◌}
use Rattle.winder.specs.Simulation.{winder_of}
use Rattle.winder.specs.Ticked.{Ticked}
use Rattle.winder.proofs.validity.Tried.ticks.Given as goal

abbrev pub invariant-loop-done : goal.invariant-loop-done
invariant-loop-done l = Ticked (winder_of l.self.settings) l.initial.at l.initial.mem l.initial.places l.at l.mem l.places × (l.at.tick ≡ l.done)
