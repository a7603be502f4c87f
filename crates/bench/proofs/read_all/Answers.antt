-- `bench::read_all` meets its contract. The piece keeps its length, and a line's bytes fit.
use mathlib.Core.Path.{◌∙◌, ap}
use native.Mathlib.Omega.{arith}
use lib.ListN.{length}
use Rattle.text.proofs.Placing.{placed-length}
use Rattle.bench.proofs.read_all.Goals as goal

pub shared_ref_as_front-written : goal.shared_ref_as_front-written
shared_ref_as_front-written g c =
    let p = c.put_piece-progress.ensures in
    omega (arith, p.says.within, ap length p.keeps ∙ placed-length _ _ _, c.reads.invariant.1)

pub reads-preserved : goal.reads-preserved
reads-preserved g c =
    let p = c.put_piece-progress.ensures in
    (omega (arith, c.read.auto.buf, c.reads.invariant.0), ap length p.keeps ∙ placed-length _ _ _ ∙ c.reads.invariant.1, p.holds.within)

pub returns-then-not-written : goal.returns-then-not-written
returns-then-not-written g c =
    record { holds = tt; keeps = omega (arith, ap length c.put_piece-progress.ensures.keeps ∙ placed-length _ _ _, c.reads.invariant.1) }
