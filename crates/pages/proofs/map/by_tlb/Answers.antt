-- `pages::map::by_tlb` meets its contract.
use mathlib.Core.Path.{refl, ◌≡◌}
use Prim.Native.Nat.{ℕ, ◌+◌, ◌<◌}
use native.Mathlib.Omega.{arith}
use borrow.Author.Rules.{rules}
use borrow.Author.Tests.{eq-eqb, ne_eqb}
use lib.ListN.{get_or-replicate, length, length-replicate, length-set, replicate}
use Rattle.pages.specs.Maps.{ShowsFrom, shows_beyond, shows_entry, shows_invalid, shows_none}
use Rattle.pages.proofs.Left.{all_left, last, one_less, rest_left}
use Rattle.pages.proofs.map.by_tlb.Goals as goal
use Rattle.pages.proofs.map.by_tlb.Goals.{else-entry-eq1-via-then-entry-eq1+else-page-lt256, else-entry-eq1-via-else-entry-eq1}

pub loop-entry-init : goal.loop-entry-init
loop-entry-init c =
    let size : length c.args.tlb ≡ 8 = search (rules, c.well_formed) in
    let e = c.iter.ensures.rest in
    rw (c.into_iter-entry-iterator.ensures.into_iter_gives, c.rev-entry-items.ensures.source, e, size) (
      shows_none c.args.tlb (replicate 256 0) (λ p l. get_or-replicate 256 p 0 0 l),
      length-replicate {A = ℕ} 256 0,
      all_left refl size,
    )

pub loop-entry-preserved-then-page-lt256 : goal.loop-entry-preserved-then-page-lt256
loop-entry-preserved-then-page-lt256 c =
    let i = c.loop-entry.invariant in
    let r = c.next.new.self.iter.rest.now in
    let y = c.in-Some.entry.now in
    let s = c.in-Some.ensures.steps in
    let n = one_less r y i.2 s in
    let k : length r < 8 = omega (arith, n, i.2.few) in
    let rest : ShowsFrom c.args.tlb (length r + 1) c.loop-entry.map = rw n at i.0 in
    let x = last r y i.2 s in (
      rw (c.shown.ensures, c.page_of-page.ensures, x) (shows_entry c.args.tlb _ k c.loop-entry.map rest i.1
          (eq-eqb _ _ (rw x at c.if-entry-eq1.true)) (rw (c.page_of-page.ensures, x) at c.if-page-lt256.true)),
      simp length-set i.1,
      rest_left r y i.2 s,
    )

pub loop-entry-preserved : goal.loop-entry-preserved
loop-entry-preserved c =
    let i = c.loop-entry.invariant in
    let r = c.next.new.self.iter.rest.now in
    let y = c.in-Some.entry.now in
    let s = c.in-Some.ensures.steps in
    let n = one_less r y i.2 s in
    let k : length r < 8 = omega (arith, n, i.2.few) in
    let rest : ShowsFrom c.args.tlb (length r + 1) c.loop-entry.map = rw n at i.0 in
    let x = last r y i.2 s in (
      elim c.else-entry-eq1.branch [
        | else-entry-eq1-via-then-entry-eq1+else-page-lt256 w ↦
            shows_beyond c.args.tlb _ k c.loop-entry.map rest (rw (c.page_of-page.ensures, x) at w.if-page-lt256.false)
        | else-entry-eq1-via-else-entry-eq1 w ↦ shows_invalid c.args.tlb _ k c.loop-entry.map rest (ne_eqb _ _ (rw x at w.if-entry-eq1.false))
      ],
      i.1,
      rest_left r y i.2 s,
    )

pub returns : goal.returns
returns c =
    let e : length c.loop-entry.entry-iterator.iter.rest.now ≡ 0 = c.in-None.ensures.steps.0 in
    rw e at c.loop-entry.invariant.0
