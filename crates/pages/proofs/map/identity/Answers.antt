-- `pages::map::identity` meets its contract.
use borrow.Author.Rules.{rules}
use Rattle.pages.proofs.map.identity.Goals as goal

pub returns : goal.returns
returns c = λ p l. let called = (c.from_fn.ensures.items.at p 0 l).2 in search (rules, called, called.met)
