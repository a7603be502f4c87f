-- `trailer_names::going_on` meets its contract: a line for each name.
use mathlib.Core.Path.{◌≡◌, refl, ◌∙◌, ap, ap₂}
use mathlib.Core.Bool.{Bool, true, false}
use Prim.Native.Nat.{ℕ, ◌+◌, ◌*◌}
use native.Mathlib.Omega.{arith}
use mir.Val.{bool_byte}
use Rattle.grammar.specs.Grammar.{lower}
use Rattle.framing.specs.helpers.Names.{texts, bit, going_on}
use Rattle.trailer_names.proofs.going_on.Goals as goal

one : (x : Bool) → bool_byte x ≡ bit x
one true = refl
one false = refl

as_bit : {x y : Bool} → x ≡ y → bool_byte x ≡ bit y
as_bit {x} e = one x ∙ ap bit e

pub returns : goal.returns
unfolding going_on texts lower
returns c =
    let small = c.lower_case-small.ensures in
    let b = c.args.byte in
    ap₂ (λ (x y : ℕ). x + 2 * y) (as_bit (c.agrees-transfer_encoding.ensures b small))
    (ap₂ (λ (x y : ℕ). x + 2 * y) (as_bit (c.agrees-content_length.ensures b small)) (omega (arith, as_bit (c.agrees-trailer.ensures b small))))
