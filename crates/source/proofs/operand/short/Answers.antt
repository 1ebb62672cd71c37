-- `source::operand::short` meets its contract: the signed number of the field, as a word.
use mathlib.Core.Path.{ap, ◌∙◌}
use mir.Syntax.{w16}
use mir.ValLaws.{to_z-of_z}
use Rattle.word.specs.Signed.{word}
use Rattle.source.proofs.operand.short.Goals as goal

pub returns : goal.returns
returns c = c.to_word.ensures ∙ ap word (to_z-of_z w16 _ (record { sfits = c.sign_extend.type_inv }) ∙ c.sign_extend.ensures)
