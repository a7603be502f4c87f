-- `lines::is_inner` meets its contract. The flag tells of the bytes so far.
use Rattle.lines.specs.helpers.Ends.{inner?}
use native.Mathlib.Omega.{arith}
use Rattle.lines.proofs.Hexes.{every-end}
use Rattle.lines.proofs.Ends.{inner_off, inner_on}
use Rattle.lines.proofs.is_inner.Goals as goal

pub loop-b-preserved : goal.loop-b-preserved
loop-b-preserved c = grind (arith, inner_off, inner_on)

pub returns : goal.returns
returns c =
    let loop = c.loop-b in
    every-end inner? c.args.part.now loop.b-index loop.inner (omega arith) loop.invariant.1
