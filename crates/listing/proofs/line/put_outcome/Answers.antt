-- `listing::line::put_outcome` meets its contract.
use Rattle.std.proofs.Common.{rules}
use Rattle.text.specs.Writer.{both}
use Rattle.listing.proofs.line.put_outcome.Goals as goal

pub returns : goal.returns
returns c = search (rules, both)
