-- `numerals::glyph` meets its contract. By whether the digit is below ten.
use native.Mathlib.Omega.{arith}
use mathlib.Core.Path.{sym}
use Rattle.numerals.proofs.Digits.{glyph-below, glyph-above}
use Rattle.numerals.proofs.glyph.Goals as goal

pub returns-then-d-lt10 : goal.returns-then-d-lt10
returns-then-d-lt10 c = sym (glyph-below c.args.d c.if-d-lt10.true)

pub returns-else-d-lt10 : goal.returns-else-d-lt10
returns-else-d-lt10 c = omega (arith, glyph-above c.args.d c.if-d-lt10.false)
