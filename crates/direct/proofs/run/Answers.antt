-- `direct::run` meets its contract.
use mathlib.Core.Path.{sym, ◌∙◌}
use Rattle.call.specs.Passed.{passed}
use Rattle.direct.proofs.run.Goals as goal

pub unwrap-memory-requires : goal.unwrap-memory-requires
unwrap-memory-requires c =
    let p = passed _ _ _ (sym c.validate_run.ensures ∙ c.in_ok-validate_run.was) in
    c.as_mut_array.ensures.variant.1 p.machine.memory

pub unwrap-image-requires : goal.unwrap-image-requires
unwrap-image-requires c =
    let p = passed _ _ _ (sym c.validate_run.ensures ∙ c.in_ok-validate_run.was) in
    c.as_mut_array-2.ensures.variant.1 p.machine.image.size

pub run_valid-requires : goal.run_valid-requires
run_valid-requires c = (passed _ _ _ (sym c.validate_run.ensures ∙ c.in_ok-validate_run.was)).room
