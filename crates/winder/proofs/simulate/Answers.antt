-- `winder::simulate` meets its contract.
use mathlib.Core.Path.{ap, ◌∙◌}
use Rattle.std.specs.Prelude.{Ok}
use Rattle.call.specs.Laws.{called_is}
use Rattle.image.specs.Image.{image_of}
use Rattle.winder.specs.Laws.{lent_is}
use Rattle.winder.specs.declared.Stage.{Stage}
use Rattle.winder.proofs.simulate.Goals as goal

pub returns : goal.returns
returns c =
    let t = c.ticks-last.ensures in
    rw (← c.read_image.ensures)
    (called_is _ (ap (λ (s : Stage). Ok s.over) t.stage)
    (lent_is _ t.memory (c.write_image.ensures ∙ ap (λ (s : Stage). image_of s.state) t.stage) t.places))
