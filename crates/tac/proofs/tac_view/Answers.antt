-- `tac::tac_view` meets its contract.
use Rattle.tac.specs.Packed.{packed_is}
use Rattle.tac.proofs.tac_view.Goals as goal

pub returns : goal.returns
returns c = packed_is _ c.pack.ensures.number c.view.ensures
