-- `hot::Hot::store` meets its contract.
use mathlib.Core.Path.{refl, ◌∙◌}
use native.Mathlib.Omega.{arith}
use borrow.Author.Rules.{rules}
use Rattle.hot.specs.Tells.{byte_indirect, direct, framed, indexed, indirect, stop}
use Rattle.hot.specs.Moves.{store_tells}
use Rattle.source.specs.Sources.{byte_named, direct_named, frame_named, indexed_named, indirect_named}
use Rattle.hot.proofs.Hot.store.Goals as goal

pub returns-in-0 : goal.returns-in-0
returns-in-0 c =
    let a = c.args in
    let pre' = c.requires in
    let fetch' = c.fetch-a in
    store_tells a.map.now a.regs.now (search (rules, c.well_formed)) a.mem.now a.self a.w pre'.0 pre'.1 0
    (pre'.2 ∙ c.in-0.is) direct (omega arith) (omega arith)
    (direct_named a.regs.now a.map.now a.mem.now a.self.pc a.w _
    c.plus-beyond.ensures fetch'.result (rw c.plus-after.ensures at fetch'.ensures))
    c.store_at.ensures

pub returns-in-1 : goal.returns-in-1
returns-in-1 c =
    let a = c.args in
    let pre' = c.requires in
    let fetch2' = c.fetch in
    let place' = c.indexed_place-a in
    store_tells a.map.now a.regs.now (search (rules, c.well_formed)) a.mem.now a.self a.w pre'.0 pre'.1 1
    (pre'.2 ∙ c.in-1.is) indexed (omega arith) (omega arith)
    (indexed_named a.regs.now a.map.now a.mem.now a.self.pc a.w _
    c.plus-beyond.ensures fetch2'.result (rw c.plus-after.ensures at fetch2'.ensures) place'.result place'.ensures)
    c.store_at-in-1.ensures

pub returns-in-3 : goal.returns-in-3
returns-in-3 c =
    let a = c.args in
    let pre' = c.requires in
    let wide' = c.wide-a in
    store_tells a.map.now a.regs.now (search (rules, c.well_formed)) a.mem.now a.self a.w pre'.0 pre'.1 3
    (pre'.2 ∙ c.in-3.is) framed (omega arith) (omega arith)
    (frame_named a.regs.now a.map.now a.mem.now a.self.pc a.w _
    c.plus-after.ensures wide'.result (wide'.ensures ∙ c.frame_place.ensures))
    c.store_at-in-3.ensures

pub returns-in-6 : goal.returns-in-6
returns-in-6 c =
    let a = c.args in
    let pre' = c.requires in
    store_tells a.map.now a.regs.now (search (rules, c.well_formed)) a.mem.now a.self a.w pre'.0 pre'.1 6
    (pre'.2 ∙ c.in-6.is) indirect (omega arith) (omega arith)
    (indirect_named a.regs.now a.map.now a.mem.now a.self.pc a.w _
    c.plus-after.ensures c.rx.result c.rx.ensures)
    c.store_at-in-6.ensures

pub returns-in-7 : goal.returns-in-7
returns-in-7 c =
    let a = c.args in
    let pre' = c.requires in
    store_tells a.map.now a.regs.now (search (rules, c.well_formed)) a.mem.now a.self a.w pre'.0 pre'.1 7
    (pre'.2 ∙ c.in-7.is) byte_indirect (omega arith) (omega arith)
    (byte_named a.regs.now a.map.now a.mem.now a.self.pc a.w _
    c.plus-after.ensures c.rx-in-7.result c.rx-in-7.ensures)
    c.store_at-in-7.ensures

pub returns-in_default : goal.returns-in_default
returns-in_default c = stop c.stop.ensures refl refl
