-- `listing::line::put_line` meets its contract.
use Rattle.std.proofs.Common.{rules}
use Rattle.listing.specs.Listing.{line_of}
use Rattle.text.specs.Writer.{both}
use Rattle.listing.proofs.line.put_line.Goals as goal

pub returns : goal.returns
unfolding line_of
returns c = search (rules, both)
