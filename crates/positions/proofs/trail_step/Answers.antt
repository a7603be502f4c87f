-- `positions::trail_step` meets its contract.
use native.Mathlib.Omega.{arith}
use Rattle.framing.specs.Grammar.{forbidden}
use Rattle.framing.proofs.Names.{going-few}
use Rattle.positions.proofs.trail_step.Goals as goal

pub name_at-requires : goal.name_at-requires
name_at-requires c =
    let x = c.args in
    (omega (arith, c.going_on.ensures, going-few forbidden 7 0 x.byte), λ e. omega arith)
