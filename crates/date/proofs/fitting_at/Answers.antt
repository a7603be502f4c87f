-- `date::fitting_at` meets its contract: the bytes passed and those that fit from there on are all that fit.
use native.Mathlib.Omega.{arith}
use mathlib.Core.Path.{ap}
use Rattle.octets.specs.helpers.Shapes.{fitting}
use Rattle.date.proofs.Tables.{fit-out}
use Rattle.date.proofs.fitting_at.Goals as goal

pub returns : goal.returns
returns c =
    let l = c.loop-i in
    let shape = c.args.shape.now in
    let text = c.unwrap_or-text.result.now in
    omega
    (arith, fit-out shape text l.i (omega (arith, c.min-both.ensures, c.loop-i-test.false)), l.invariant.1, ap (fitting shape) l.invariant.0)
