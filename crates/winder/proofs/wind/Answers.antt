-- `winder::wind` meets its contract.
use mathlib.Core.Path.{sym}
use Rattle.call.specs.Passed.{machine_good}
use Rattle.refusal.specs.Laws.{then_good}
use Rattle.winder.proofs.wind.Goals as goal

pub unwrap-memory-requires : goal.unwrap-memory-requires
unwrap-memory-requires c =
    c.as_mut_array.ensures.variant.1 (machine_good _ _ (then_good _ _ (sym c.in_ok-tried.ensures.valid)).0).memory

pub unwrap-image-requires : goal.unwrap-image-requires
unwrap-image-requires c =
    c.as_mut_array-2.ensures.variant.1 (machine_good _ _ (then_good _ _ (sym c.in_ok-tried.ensures.valid)).0).image.size
