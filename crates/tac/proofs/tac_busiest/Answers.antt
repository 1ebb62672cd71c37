-- `tac::tac_busiest` meets its contract.
use Rattle.tac.specs.Packed.{packed_is}
use Rattle.tac.proofs.tac_busiest.Goals as goal

pub returns : goal.returns
returns c = packed_is _ c.pack.ensures.number c.busiest.ensures
