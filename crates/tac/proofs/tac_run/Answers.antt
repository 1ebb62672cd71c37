-- `tac::tac_run` meets its contract.
use Rattle.tac.specs.Packed.{packed_is}
use Rattle.tac.proofs.tac_run.Goals as goal

pub returns : goal.returns
returns c = packed_is _ c.pack.ensures.number c.run.ensures
