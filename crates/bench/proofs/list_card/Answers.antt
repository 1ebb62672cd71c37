-- The listing is what `written` says, of what the calls say.
use Rattle.std.proofs.Common.{ap, arith}
use Rattle.bench.proofs.Laws.{written}
use Rattle.card.specs.declared.CallValidity.{CallValidity}
use Rattle.bench.proofs.list_card.Goals as goal

pub returns : goal.returns
returns c =
    written c.args.card.now c.args.text.now c.write_listing-written.new.text _ c.write_listing-written.result _ (omega arith)
    (ap (λ (x : CallValidity). x.validity) c.validate_card-checked.ensures) c.run_card-filled.ensures.part c.write_listing-written.ensures.count
    c.write_listing-written.ensures.text
