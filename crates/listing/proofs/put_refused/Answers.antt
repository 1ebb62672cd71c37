-- `listing::put_refused` meets its contract.
use Rattle.listing.specs.Listing.{refused_text}
use Rattle.text.specs.Writer.{both}
use Rattle.listing.proofs.put_refused.Goals as goal

pub returns : goal.returns
unfolding refused_text
returns c =
    both c.put_text.ensures
    (both (rw c.from.ensures at c.put_decimal.ensures) (both c.put.ensures (both c.put_decimal-2.ensures c.put-2.ensures)))
