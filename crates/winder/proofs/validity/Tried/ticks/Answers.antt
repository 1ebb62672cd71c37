-- `winder::validity::Tried::ticks` meets its contract.
use mathlib.Core.Path.{refl, ◌≡◌}
use native.Mathlib.Omega.{arith}
use Rattle.winder.specs.Laws.{start_bounded, start_number, tick_follows, tick_stands}
use Rattle.winder.specs.Ticked.{long, ticked_all, ticked_none, ticked_tick}
use Rattle.winder.proofs.validity.Tried.ticks.Goals as goal

pub loop-done-init : goal.loop-done-init
loop-done-init c = let e = c.start-at.ensures in (ticked_none (rw (e, start_number)) (rw e (start_bounded _)), rw (e, start_number))

pub tick-at-requires : goal.tick-at-requires
tick-at-requires c = let l = c.loop-done.invariant in (l.0.bounded, omega (arith, l.1, c.loop-done-test.true))

pub overflow_cast-at : goal.overflow_cast-at
overflow_cast-at c =
    let l = c.loop-done.invariant in
    let stands = tick_stands _ _ _ c.tick-at.ensures.stage l.0.bounded in
    omega (arith, stands, l.1, c.loop-done-test.true, c.args.self.in_bounds.ticks.most)

pub put_word-requires : goal.put_word-requires
put_word-requires c = omega (arith, long c.loop-done.invariant.0, c.loop-done-test.true, c.requires)

pub loop-done-preserved : goal.loop-done-preserved
loop-done-preserved c =
    let l = c.loop-done.invariant in
    let t = c.tick-at.ensures in
    (ticked_tick l.0 _ _ _ _ t.stage t.memory c.put_word.ensures (omega (arith, l.1)), omega (arith, l.1, tick_follows _ _ _ t.stage))

pub shape_of-places : goal.shape_of-places
shape_of-places c = long c.loop-done.invariant.0

pub returns : goal.returns
returns c =
    let l = c.loop-done.invariant in
    let e : c.loop-done.at.tick ≡ c.args.self.settings.ticks = omega (arith, l.1, c.loop-done-test.false) in
    rw (← c.start-at.ensures, ← e)
    (record { stage = l.0.stage; memory = l.0.memory; places = ticked_all l.0 _ refl (omega (arith, e, c.requires)) })
