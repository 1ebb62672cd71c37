-- `load::window::load_of` meets its contract: at each turn the load is that of the records before the index.
use Rattle.std.specs.Prelude.{refl, get_or, take}
use native.Mathlib.Omega.{arith}
use Rattle.std.proofs.Common.{length-take}
use Rattle.load.specs.Load.{load_of}
use Rattle.load.proofs.Laws.{load_small, load_first, on_small}
use Rattle.load.proofs.window.load_of.Goals as goal

pub loop-tick-init : goal.loop-tick-init
unfolding load_of
loop-tick-init c = refl

pub overflow_add-load : goal.overflow_add-load
overflow_add-load c =
    let records = c.args.records.now in
    let i = c.loop-tick.tick-index in
    omega (arith, c.loop-tick.invariant, c.on-load.ensures, on_small (get_or records i 0), load_small (take i records), length-take i records)

pub loop-tick-preserved : goal.loop-tick-preserved
loop-tick-preserved c =
    let more = load_first c.args.records.now c.loop-tick.tick-index c.loop-tick-test.true in cc
