-- `transition::line_step` meets its contract: a digit where one may go on, or a byte behind the digits.
use mathlib.Core.Path.{◌≡◌, sym, ◌∙◌}
use mathlib.Core.Bool.{true, false}
use native.Mathlib.Omega.{arith}
use Rattle.octets.specs.Bytes.{hex?}
use Rattle.octets.proofs.Bytes.{no_hex}
use Rattle.framing.proofs.Cases.{false-true}
use Rattle.transition.specs.helpers.Lines.{digits}
use Rattle.transition.proofs.Digits.{digit_step, other_step}
use Rattle.transition.proofs.line_step.Goals as goal
use Rattle.transition.proofs.line_step.Goals.{Joined-else-digit-le15, else-digit-le15-via-else-digit-le15, else-digit-le15-via-then-digit-le15+else-in_digits}

-- it is no digit, or stands where none may go on
other : (c : Joined-else-digit-le15) → digits c.args.position ≡ true → hex? c.args.byte ≡ false
other c i =
    elim c.else-digit-le15.branch [
      | else-digit-le15-via-then-digit-le15+else-in_digits w ↦ false-true (sym w.if-in_digits.false ∙ w.in_digits.ensures ∙ i)
      | else-digit-le15-via-else-digit-le15 w ↦ no_hex c.args.byte c.hex_value-digit.result c.hex_value-digit.ensures (omega arith) w.if-digit-le15.false
    ]

pub size_step-requires : goal.size_step-requires
size_step-requires c =
    (c.requires.0, rw c.size_of-value.ensures c.requires.1)

pub returns-then-in_digits : goal.returns-then-in_digits
returns-then-in_digits c =
    let s = c.args in
    let i = sym c.in_digits.ensures ∙ c.if-in_digits.true in
    rw (
      ← (digit_step s.byte s.position s.length s.before c.hex_value-digit.result c.hex_value-digit.ensures c.if-digit-le15.true i),
      ← c.size_of-value.ensures,
    )
    c.size_step.ensures

pub returns : goal.returns
returns c =
    let s = c.args in
    rw
    (← (other_step s.byte s.position s.length s.before (other ((goal.at.returns c).Joined-else-digit-le15))), ← c.size_of-value.ensures, ← c.ext_of.ensures)
    (c.ext_step.ensures _)
