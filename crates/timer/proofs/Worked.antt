-- The worked milliseconds are as expected.
-- Assumes nothing.
use Rattle.std.specs.Prelude.{refl, ◌≡◌}
use mathlib.Core.List.{map, map_congr_left}
use Rattle.std.proofs.Common.{◌∙◌}
use Rattle.timer.specs.AtOnce.{come_to, is_quick, quick}
use Rattle.timer.specs.Time.{counts, elapsed, fires, lines_of, ticked}
use Rattle.timer.specs.Worked.{Row, Worked, expected, rows}
use Rattle.timer.specs.declared.Elapsed.{Elapsed}

abbrev quickly : Row → Elapsed
quickly r = quick r.ms r.before

computed : map quickly rows ≡ map expected rows
unfolding rows quick come_to counts
computed = refl

pub worked_timers : Worked
unfolding elapsed ticked fires counts lines_of
worked_timers = record { times = map_congr_left {l = rows} (λ r m. is_quick r.ms r.before) ∙ computed; lines = refl }
