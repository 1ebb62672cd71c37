-- `hot::Hot::flags` meets its contract.
use native.Mathlib.Omega.{arith}
use Rattle.hot.proofs.Hot.flags.Goals as goal

pub returns : goal.returns
returns c = (rw (← c.z.ensures, ← c.s.ensures) (omega arith), omega arith)
