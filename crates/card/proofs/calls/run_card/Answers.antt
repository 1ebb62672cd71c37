-- `card::calls::run_card` meets its contract.
use mathlib.Core.Path.{ap}
use Rattle.call.specs.Call.{Call}
use Rattle.card.specs.Laws.{part_holds, part_long}
use Rattle.card.proofs.calls.run_card.Goals as goal

pub slice_bounds-result-end : goal.slice_bounds-result-end
slice_bounds-result-end c = part_long _ _ _ _ _ _ _ c.perform.ensures c.unwrap_or-filled.ensures

pub returns : goal.returns
returns c =
    let did = c.perform.ensures in
    record {
      part = part_holds _ _ _ _ _ _ _ did c.unwrap_or-filled.ensures;
      memory = ap (λ (x : Call). x.lent.memory) did;
      image = ap (λ (x : Call). x.lent.image) did;
    }
