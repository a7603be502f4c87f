-- `positions::name_step` meets its contract.
use mathlib.Core.Path.{◌∙◌}
use Prim.Native.Nat.{◌/◌, ◌%◌}
use native.Mathlib.Omega.{arith}
use Rattle.framing.specs.declared.TrailPos.TheVariants as TrailPos
use Rattle.framing.specs.Grammar.{forbidden}
use Rattle.framing.specs.helpers.Names.{texts}
use Rattle.framing.proofs.Names.{none-on, going-few}
use Rattle.positions.proofs.Steps.{pick, short}
use Rattle.positions.proofs.name_step.Goals as goal

pub returns-then-bits-eq0 : goal.returns-then-bits-eq0
returns-then-bits-eq0 c =
    let x = c.args in
    rw (c.if-bits-eq0.true, none-on (texts forbidden) (x.agreed / 8) x.byte)
    (pick (TrailPos.Name 0) c.is_token.ensures c.pick-value.ensures c.pick.ensures)

pub name_at-requires : goal.name_at-requires
name_at-requires c =
    let x = c.args in (
      omega (arith, c.going_on-on.ensures, going-few forbidden (x.agreed % 8) (x.agreed / 8) x.byte),
      λ e. short (x.agreed % 8) (x.agreed / 8) x.byte (λ z. e (c.going_on-on.ensures ∙ z)),
    )
