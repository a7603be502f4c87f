-- `bench::run` meets its contract. What was put fits.
use mathlib.Core.Path.{◌∙◌, ap}
use native.Mathlib.Omega.{arith}
use lib.ListN.{length}
use Rattle.text.proofs.Placing.{placed-length}
use Rattle.bench.proofs.run.Goals as goal

pub shared_ref_as_front-written : goal.shared_ref_as_front-written
shared_ref_as_front-written g c =
    let p = c.put_last-used.ensures in
    omega (arith, p.says.within, ap length p.keeps ∙ placed-length _ _ _, c.read_all.ensures.keeps)
