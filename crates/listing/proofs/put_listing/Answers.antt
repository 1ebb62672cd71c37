-- `listing::put_listing` meets its contract.
use Rattle.listing.specs.Listing.{listing_of}
use Rattle.text.specs.Writer.{both}
use Rattle.listing.proofs.put_listing.Goals as goal

pub returns-in-Ok : goal.returns-in-Ok
unfolding listing_of
returns-in-Ok c = rw c.in-Ok.is (both c.put_runs.ensures c.put_lines.ensures)
