-- `endian::put_bytes` meets its contract.
use native.Mathlib.Omega.{arith}
use mathlib.Core.List.{append_assoc}
use Rattle.std.proofs.lemmas.Grind.{common_steps}
use Rattle.std.proofs.lemmas.List.Edits.{sets-eq}
use Rattle.endian.proofs.put_bytes.Goals as goal

pub returns : goal.returns
returns c =
    let e = sets-eq c.args.from.now c.args.bytes.now c.args.at c.requires in
    rw (c.copy_from_slice.ensures.after, e, append_assoc) (grind (arith, common_steps))
