-- `pages::map::shown` meets its contract.
use Rattle.pages.specs.Maps.{shown_of}
use Rattle.pages.proofs.map.shown.Goals as goal

pub returns : goal.returns
unfolding shown_of
returns c = rw (← c.usable.ensures, ← c.usable-2.ensures, ← c.usable-3.ensures)
