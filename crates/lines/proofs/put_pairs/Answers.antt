-- `lines::put_pairs` meets its contract. The first `i` pairs are put.
use mathlib.Core.Path.{refl}
use Prim.Native.Nat.{◌*◌}
use native.Mathlib.Omega.{arith}
use Rattle.lines.proofs.Hexes.{pair_is, filling_start, filling_on}
use Rattle.lines.proofs.put_pairs.Goals as goal

pub loop-i-init : goal.loop-i-init
loop-i-init c = filling_start c.requires.0

pub loop-i-preserved : goal.loop-i-preserved
loop-i-preserved c =
    let loop = c.loop-i in
    let byte = pair_is c.args.line.now loop.i (2 * loop.i) c.pair.result refl (omega arith) c.pair.ensures in
    filling_on loop.invariant (omega arith) byte
