-- `hot::Hot::taken` meets its contract.
use Rattle.hot.specs.Tells.{s_of, z_of}
use Rattle.hot.proofs.Hot.taken.Goals as goal

pub returns : goal.returns
returns c =
    let h = c.args.self in
    rw c.flags.ensures.0 (c.holds.ensures.tells h.v h.c (s_of h) (z_of h))
