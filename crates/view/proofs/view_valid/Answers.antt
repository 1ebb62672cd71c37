-- `view::view_valid` meets its contract.
use Rattle.std.specs.Prelude.{◌≡◌}
use Rattle.machine.specs.Run.{stopped_ending}
use Rattle.view.specs.Laws.{no_step}
use Rattle.view.proofs.view_valid.Goals as goal

pub returns : goal.returns
returns c m =
    let ending : stopped_ending c.read_image-state.result.condition ≡ c.into.result = cc in
    rw (no_step, ← c.read_image-state.ensures, ending) (rw c.finish.ensures at c.write_run.ensures)
