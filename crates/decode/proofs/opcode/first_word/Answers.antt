-- `decode::opcode::first_word` meets its contract: by the entry of the word's upper byte.
use mathlib.Core.Path.{sym, ◌∙◌}
use borrow.Author.Tests.{eq-eqb, ne_eqb}
use Rattle.decode.specs.Decode.{has_second}
use Rattle.decode.proofs.Fields.{first_by_entry}
use Rattle.decode.proofs.opcode.first_word.Goals as goal

pub returns-then-entry-eq-UNKNOWN : goal.returns-then-entry-eq-UNKNOWN
returns-then-entry-eq-UNKNOWN c = sym (first_by_entry _ _ c.entries.ensures c.ranges.word.fits ∙ rw (eq-eqb _ _ c.if-entry-eq-UNKNOWN.true))

pub returns-then-undefined_rd : goal.returns-then-undefined_rd
returns-then-undefined_rd c =
    sym (first_by_entry _ _ c.entries.ensures c.ranges.word.fits ∙ rw (ne_eqb _ _ c.if-entry-eq-UNKNOWN.false, ← c.undefined_rd.ensures, c.if-undefined_rd.true))

pub returns : goal.returns
unfolding has_second
returns c =
    rw (c.privilege_of.ensures, c.access_of.ensures, c.flow_of.ensures)
    (sym (first_by_entry _ _ c.entries.ensures c.ranges.word.fits ∙ rw (ne_eqb _ _ c.if-entry-eq-UNKNOWN.false, ← c.undefined_rd.ensures, c.if-undefined_rd.false)))
