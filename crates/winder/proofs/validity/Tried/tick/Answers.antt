-- `winder::validity::Tried::tick` meets its contract.
use mathlib.Core.Path.{ap, ◌∙◌}
use Prim.Native.Nat.{◌+◌}
use native.Mathlib.Omega.{arith}
use Rattle.barrel.specs.Laws.{taken_within, wound_small}
use Rattle.machine.specs.declared.Finished.{Finished}
use Rattle.winder.specs.Simulation.{tick_of}
use Rattle.winder.proofs.validity.Tried.tick.Goals as goal

pub overflow_add-wound : goal.overflow_add-wound
overflow_add-wound c =
    omega (arith, c.wound_by.ensures, wound_small c.run.result.state.ports.output, c.requires.0, c.requires.1)

pub overflow_sub-wound : goal.overflow_sub-wound
overflow_sub-wound c =
    rw c.taken_at-taken.ensures (taken_within c.args.self.settings.rundown _ (c.args.at.standing + c.wound_by.result))

pub returns : goal.returns
unfolding tick_of
returns c =
    record {
      stage = c.after_tick.ensures ∙ rw (c.taken_at-taken.ensures, c.wound_by.ensures, ap (λ (f : Finished). f.state) c.run.ensures.answer);
      memory = c.run.ensures.memory;
    }
