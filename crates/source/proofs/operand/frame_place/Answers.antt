-- `source::operand::frame_place` meets its contract.
use mir.Syntax.{w16}
use mir.ValLaws.{to_z-of_z}
use Rattle.source.proofs.operand.frame_place.Goals as goal

pub returns : goal.returns
returns c =
    let twice' = c.frame_offset in
    rw (c.plus.ensures, c.to_word.ensures, to_z-of_z w16 twice'.result (record { sfits = twice'.type_inv }), twice'.ensures)
