-- `pages::map::page_map` meets its contract.
use Rattle.pages.specs.Maps.{identity_mapped, tlb_mapped}
use Rattle.pages.proofs.map.page_map.Goals as goal

pub returns-then-on : goal.returns-then-on
returns-then-on c = tlb_mapped c.args.tlb c.by_tlb.result c.if-on.true c.by_tlb.ensures

pub returns : goal.returns
returns c = identity_mapped c.args.tlb c.identity.result c.if-on.false c.identity.ensures
