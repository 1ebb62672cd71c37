-- `tally::count_commands` meets its contract.
use mathlib.Core.Path.{◌∙◌}
use Rattle.tally.proofs.Counting.{ended, goes_on}
use Rattle.tally.proofs.count_commands.Goals as goal

pub loop-command-preserved : goal.loop-command-preserved
loop-command-preserved c =
    let so_far = c.loop-command.invariant in
    let gave = rw c.in-Ok.is at c.in-Some.ensures.steps in
    record { card = gave.0 ∙ so_far.card; counting = goes_on so_far.counting (rw so_far.card at gave.1) c.is_run-runs.ensures }

pub returns-in-Err-clause-value : goal.returns-in-Err-clause-value
returns-in-Err-clause-value c =
    let so_far = c.loop-command.invariant in
    let gave = rw c.in-Err.is at c.in-Some.ensures.steps in
    (ended so_far.counting c.requires (rw so_far.card at gave.1)).0

pub returns-clause-value : goal.returns-clause-value
returns-clause-value c =
    let so_far = c.loop-command.invariant in
    (ended so_far.counting c.requires (rw so_far.card at c.in-None.ensures.steps.1)).0
