-- `runner::ahead::stretch` meets its contract.
use Rattle.runner.proofs.ahead.stretch.Goals as goal

pub returns : goal.returns
returns c =
    let flags = c.result_of.ensures c.requires.0.apart in
    let g = c.quick-gone.ensures.leads.goes c.args.state c.requires.0 c.requires.1 c.upper_flags.ensures in
    record {
      goes = rw c.gather.ensures (rw (flags.0, flags.1, c.spread-regs.ensures) at g);
      steps = c.quick-gone.ensures.steps;
    }
