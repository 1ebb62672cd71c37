-- `look::look` meets its contract.
use mathlib.Core.Path.{sym, ◌∙◌}
use Rattle.call.specs.Passed.{image_good_lem}
use Rattle.look.proofs.look.Goals as goal

pub unwrap-requires : goal.unwrap-requires
unwrap-requires c = c.as_array.ensures.variant.1 (image_good_lem _ (sym c.validate_image.ensures ∙ c.in_ok-validate_image.was)).size
