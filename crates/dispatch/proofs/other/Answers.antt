-- `dispatch::other` meets its contract.
use mathlib.Core.Path.{refl}
use Rattle.hot.specs.Tells.{stop}
use Rattle.dispatch.proofs.other.Goals as goal

pub returns : goal.returns
returns c = stop c.stop.ensures refl refl
