-- `view::view` meets its contract.
use mathlib.Core.Path.{sym, ◌∙◌}
use Rattle.call.specs.Passed.{passed}
use Rattle.view.proofs.view.Goals as goal

pub unwrap-requires : goal.unwrap-requires
unwrap-requires c =
    c.as_array.ensures.variant.1 (passed _ _ _ (sym c.validate_run.ensures ∙ c.in_ok-validate_run.was)).machine.image.size

pub view_valid-requires : goal.view_valid-requires
view_valid-requires c = (passed _ _ _ (sym c.validate_run.ensures ∙ c.in_ok-validate_run.was)).room
