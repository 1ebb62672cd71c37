-- `pages::kept::Maps::of` meets its contract.
use Rattle.pages.specs.Maps.{identity_mapped, tlb_mapped}
use Rattle.pages.proofs.kept.Maps.of.Goals as goal

pub returns-then-translates : goal.returns-then-translates
returns-then-translates c =
    let maps = c.args.self.now in
    λ tlb fits. rw (← fits c.if-translates.true) (tlb_mapped maps.origin maps.translated c.if-translates.true maps.kept.1)

pub returns-else-translates : goal.returns-else-translates
returns-else-translates c =
    let maps = c.args.self.now in
    λ tlb fits. identity_mapped tlb maps.plain c.if-translates.false maps.kept.0
