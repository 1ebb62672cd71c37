-- `listing::put_runs` meets its contract.
use Rattle.std.proofs.Common.{rules}
use Rattle.listing.specs.Listing.{runs_text}
use Rattle.text.specs.Writer.{both}
use Rattle.listing.proofs.put_runs.Goals as goal

pub returns : goal.returns
unfolding runs_text
returns c = search (rules, both)
