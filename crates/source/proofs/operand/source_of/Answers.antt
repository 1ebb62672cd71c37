-- `source::operand::source_of` meets its contract.
use mathlib.Core.Path.{refl, ◌∙◌}
use native.Mathlib.Omega.{arith}
use Rattle.source.specs.Sources.{byte_source, direct_source, frame_source, immediate_source, indexed_source, indirect_source, last_mode, register_source, short_source}
use Rattle.source.proofs.operand.source_of.Goals as goal

pub returns-in-0 : goal.returns-in-0
returns-in-0 c =
    let a = c.args in
    let p = c.requires in
    rw c.operand.ensures (direct_source a.regs.now a.map.now a.mem.now a.pc a.w _ p.0 _
    c.plus-beyond.ensures c.fetch.result
    (rw c.plus-after.ensures at c.fetch.ensures) (p.1 ∙ c.in-0.is)
    c.read.ensures)

pub returns-in-1 : goal.returns-in-1
returns-in-1 c =
    let a = c.args in
    let p = c.requires in
    let fetch2' = c.fetch-in-1 in
    rw c.operand-in-1.ensures (indexed_source a.regs.now a.map.now a.mem.now a.pc a.w _ p.0 _
    c.plus-beyond.ensures fetch2'.result
    (rw c.plus-after.ensures at fetch2'.ensures) (p.1 ∙ c.in-1.is)
    c.indexed_place-a.result c.indexed_place-a.ensures c.read-in-1.ensures)

pub returns-in-2 : goal.returns-in-2
returns-in-2 c =
    let a = c.args in
    let p = c.requires in
    rw c.operand-in-2.ensures (immediate_source a.regs.now a.map.now a.mem.now a.pc a.w _ p.0 _
    c.plus-beyond.ensures c.fetch-in-2.result
    (rw c.plus-after.ensures at c.fetch-in-2.ensures) (p.1 ∙ c.in-2.is) refl)

pub returns-in-3 : goal.returns-in-3
returns-in-3 c =
    let a = c.args in
    let p = c.requires in
    rw c.operand-in-3.ensures (frame_source a.regs.now a.map.now a.mem.now a.pc a.w _ p.0 _
    c.plus-after.ensures (p.1 ∙ c.in-3.is) c.frame_place.result
    c.frame_place.ensures c.read-in-3.ensures)

pub returns-in-4 : goal.returns-in-4
returns-in-4 c =
    let a = c.args in
    let p = c.requires in
    rw c.operand-in-4.ensures (register_source a.regs.now a.map.now a.mem.now a.pc a.w _ p.0 _
    c.plus-after.ensures (p.1 ∙ c.in-4.is) c.rx.ensures)

pub returns-in-5 : goal.returns-in-5
returns-in-5 c =
    let a = c.args in
    let p = c.requires in
    rw c.operand-in-5.ensures (short_source a.regs.now a.map.now a.mem.now a.pc a.w _ p.0 _
    c.plus-after.ensures (p.1 ∙ c.in-5.is) c.short.ensures)

pub returns-in-6 : goal.returns-in-6
returns-in-6 c =
    let a = c.args in
    let p = c.requires in
    rw c.operand-in-6.ensures (indirect_source a.regs.now a.map.now a.mem.now a.pc a.w _ p.0 _
    c.plus-after.ensures (p.1 ∙ c.in-6.is) c.rx-in-6.result
    c.rx-in-6.ensures c.read-in-6.ensures)

pub returns-in_default : goal.returns-in_default
returns-in_default c =
    let a = c.args in
    let p = c.requires in
    rw c.operand-in_default.ensures (byte_source a.regs.now a.map.now a.mem.now a.pc a.w _ p.0 _
    c.plus-after.ensures (p.1 ∙ last_mode c.args.mode (omega arith) (omega arith)
    (omega arith) (omega arith) (omega arith) (omega arith) (omega arith)
    (omega arith)) c.rx-in_default.result c.rx-in_default.ensures c.read-in_default.ensures)
