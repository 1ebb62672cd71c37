-- `winder::validity::validate_settings` meets its contract.
use mathlib.Core.Path.{sym, ◌∙◌}
use Rattle.winder.specs.Bounds.{settings_good_lem}
use Rattle.winder.specs.Call.{settings_valid}
use Rattle.winder.proofs.validity.validate_settings.Goals as goal

pub invariant_of-result : goal.invariant_of-result
unfolding settings_valid
invariant_of-result c =
    let good = rw c.good_settings.ensures at (sym c.good_if.ensures ∙ c.in_ok-good_if.was) in
    record { in_bounds = (settings_good_lem c.args.settings c.args.places good).0 }

pub returns-clause-room : goal.returns-clause-room
unfolding settings_valid
returns-clause-room c =
    let good = rw c.good_settings.ensures at (sym c.good_if.ensures ∙ c.in_ok-good_if.was) in
    (settings_good_lem c.args.settings c.args.places good).1
