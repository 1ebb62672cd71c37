-- `card::effects::Progress::run` meets its contract.
use mathlib.Core.Path.{◌∙◌}
use Rattle.machine.specs.Flag.{flag_of}
use Rattle.report.specs.Layout.{report_size}
use Rattle.report.specs.Report.{report_of}
use Rattle.command.specs.Parts.{front_of_part}
use Rattle.card.proofs.effects.Progress.run.Goals as goal

pub returns-clause-report : goal.returns-clause-report
returns-clause-report c =
    let start = c.args in
    let end = c.run-finished.result in
    let bytes = report_of end.ending end.state.pc (flag_of end.state) end.steps end.states in
    front_of_part start.self.now.filled report_size bytes start.report.now _ c.write_run.ensures
    ∙ rw c.run-finished.ensures.answer
