-- `pages::map::is_open` meets its contract.
use Rattle.pages.specs.Maps.{lowest_bit}
use Rattle.pages.proofs.map.is_open.Goals as goal

pub returns-in-Read : goal.returns-in-Read
returns-in-Read c = rw c.in-Read.is (lowest_bit c.args.shown)

pub returns-in-Write : goal.returns-in-Write
returns-in-Write c = rw c.in-Write.is

pub returns-in-Execute : goal.returns-in-Execute
returns-in-Execute c = rw c.in-Execute.is
