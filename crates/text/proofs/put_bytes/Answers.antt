-- `text::put_bytes` meets its contract. By where the bytes fit.
use mathlib.Core.Path.{refl}
use Prim.Native.Nat.{◌+◌, ◌<◌}
use native.Mathlib.Omega.{arith}
use lib.ListN.{length}
use Rattle.text.proofs.Placing.{puts_nothing, puts_part}
use Rattle.text.proofs.put_bytes.Goals as goal
use Rattle.text.proofs.put_bytes.Goals.{then-at-out-via-then-at-out, then-at-out-via-else-at-out+then-src-out}

pub returns-then-at-out : goal.returns-then-at-out
returns-then-at-out c =
    let x = c.args in
    let short : length x.out.now < x.at + length x.src.now = elim c.then-at-out.branch [
      | then-at-out-via-then-at-out w ↦ omega (arith, w.if-at-out.true)
      | then-at-out-via-else-at-out+then-src-out w ↦ omega (arith, w.if-at-out.false, w.if-src-out.true)
    ] in
    let r = puts_nothing x.out.now x.at x.src.now short in
    record { ends = r.0; writes = r.1 }

pub returns : goal.returns
returns c =
    let p = c.copy in
    let x = c.args in
    let r = puts_part x.out.now x.at x.src.now p.new.dst (x.at + length x.src.now) (omega arith) refl p.ensures in
    record { ends = r.0; writes = r.1 }
