-- `status::pending::without` meets its contract: past the sixteen lines 2 ^ line is above every word.
use Rattle.std.proofs.Common.{sym, ◌≡◌, ℕ, ◌-◌, ◌<◌, ◌≤◌, arith}
use Prim.Native.Nat.{◌^◌}
use lib.Pow.{pow_mono}
use Rattle.status.proofs.pending.without.Goals as goal

past : {lines k : ℕ} → 16 ≤ k → lines < 65536 → lines - 2 ^ k ≡ 0
past {lines} {k} h l = let far : 2 ^ 16 ≤ 2 ^ k = pow_mono h in omega arith

pub returns-else-line-lt16 : goal.returns-else-line-lt16
returns-else-line-lt16 c = sym (past c.if-line-lt16.false c.ranges.lines.fits)
