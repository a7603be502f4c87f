-- `lines::all_hex` meets its contract. The largest value so far tells of the bytes there.
use native.Mathlib.Omega.{arith}
use mathlib.Core.Path.{◌≡◌}
use mathlib.Core.Bool.{◌&&◌}
use lib.Dec.{ltb}
use lib.ListN.{get_or}
use Rattle.octets.specs.Bytes.{hex?}
use Rattle.lines.proofs.Hexes.{most-of-both, every-on, every-end}
use Rattle.lines.proofs.all_hex.Goals as goal

pub loop-b-preserved : goal.loop-b-preserved
loop-b-preserved c =
    let loop = c.loop-b in
    let line = c.args.line.now in
    let i = loop.b-index in
    let tells : ltb c.max-most.result 16 ≡ (ltb loop.most 16 && hex? (get_or line i 0))
    = most-of-both (get_or line i 0) loop.most c.hex_value.result c.hex_value.ensures c.max-most.result (omega arith) in
    (omega arith, every-on line i (omega arith) hex? (ltb loop.most 16) (ltb c.max-most.result 16) tells loop.invariant.1)

pub returns : goal.returns
returns c =
    let loop = c.loop-b in
    every-end hex? c.args.line.now loop.b-index (ltb loop.most 16) (omega arith) loop.invariant.1
