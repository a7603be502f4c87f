-- `url_normal::put_lower` meets its contract.
use Prim.Native.Nat.{◌+◌}
use native.Mathlib.Omega.{arith}
use lib.ListN.{length}
use Rattle.text.proofs.Placing.{puts_all}
use Rattle.url_equal.specs.Meaning.{lower_all}
use Rattle.url_normal.proofs.Writer.{lower-length}
use Rattle.url_normal.proofs.put_lower.Goals as goal

pub returns : goal.returns
returns c =
    let x = c.args in
    let n = lower-length x.s.now in
    let r = puts_all x.out.now x.at (lower_all x.s.now) c.fill_lower.new.dst (x.at + length x.s.now)
    (omega (arith, n, c.requires)) (omega (arith, n)) c.fill_lower.ensures in
    record { ends = r.0; writes = r.1 }
