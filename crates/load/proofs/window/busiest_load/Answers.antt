-- `load::window::busiest_load` meets its contract.
use mathlib.Core.Path.{refl}
use native.Mathlib.Omega.{arith}
use lib.ListN.{get_or}
use Rattle.load.proofs.Sliding.{Turn, entering, enters_fits, moves, slides, starts, turn_is}
use Rattle.load.proofs.window.busiest_load.Goals as goal
use Rattle.load.proofs.window.busiest_load.Goals.{After-on}

turned :
    (c : After-on)
    → let records = c.args.records.now in
    Turn records c.min-filled.result c.loop-start.start (get_or (entering records c.min-filled.result) c.loop-start.start 0) (get_or records c.loop-start.start 0)
turned c = turn_is c.args.records.now c.min-filled.result c.loop-start.start _ _ c.loop-start-test.true refl refl

pub loop-start-init : goal.loop-start-init
loop-start-init c = starts _ _ _ _ c.min-filled.ensures c.load_of-load.ensures

pub overflow_add-load : goal.overflow_add-load
overflow_add-load c = omega (arith, enters_fits c.loop-start.invariant c.min-filled.ensures (turned c) c.on.ensures)

pub overflow_sub-load : goal.overflow_sub-load
overflow_sub-load c =
    (moves c.loop-start.invariant c.min-filled.ensures (turned (goal.at.overflow_sub-load c).After-on) c.on.ensures c.on-in-loop-start.ensures).0

pub loop-start-preserved : goal.loop-start-preserved
loop-start-preserved c =
    let s = c.loop-start.invariant in
    let f = c.min-filled.ensures in
    let t = turned (goal.at.loop-start-preserved c).After-on in
    let m = moves s f t c.on.ensures c.on-in-loop-start.ensures in
    slides s f t c.on.ensures m.1 c.max-most.ensures
