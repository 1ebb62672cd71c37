-- `hot::Hot::store_at` meets its contract.
use mathlib.Core.Path.{refl}
use Rattle.pages.specs.Accesses.{not_wrote, wrote}
use Rattle.source.specs.Fields.{register_read}
use Rattle.hot.specs.Tells.{goes, stays}
use Rattle.hot.proofs.Hot.store_at.Goals as goal

pub returns-then-v-ge-NONE : goal.returns-then-v-ge-NONE
returns-then-v-ge-NONE c = stays c.stop.ensures refl

pub returns-then-write : goal.returns-then-write
returns-then-write c =
    let r = register_read c.register-v.ensures
    c.if-v-ge-NONE.false in
    goes c.to.ensures r.low (rw r.value at (wrote c.write.ensures c.if-write.true))

pub returns : goal.returns
returns c = stays c.stop-2.ensures (not_wrote c.write.ensures c.if-write.false)
