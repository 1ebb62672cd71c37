-- `direct::run_valid` meets its contract.
use mathlib.Core.List.{◌++◌}
use mathlib.Core.Path.{ap, ◌∙◌}
use lib.ListN.{drop}
use Rattle.image.specs.Image.{image_of}
use Rattle.machine.specs.Flag.{flag_of}
use Rattle.machine.specs.declared.Finished.{Finished}
use Rattle.report.specs.Layout.{report_size}
use Rattle.report.specs.Report.{report_of}
use Rattle.direct.proofs.run_valid.Goals as goal

pub returns : goal.returns
returns c =
    let start = c.args in
    let answer = c.run-finished.ensures.answer in
    rw (← c.read_image-state.ensures) (record {
      memory = c.run-finished.ensures.memory;
      image = c.write_image.ensures ∙ ap (λ (f : Finished). image_of f.state) answer;
      report =
          c.write_run.ensures
          ∙ ap (λ (f : Finished). report_of f.ending f.state.pc (flag_of f.state) f.steps f.states ++ drop report_size start.report.now)
          answer;
    })
