-- `size_lines::plain_line` meets its contract. The loop stands behind digits with that value.
use native.Mathlib.Omega.{arith}
use Rattle.size_lines.proofs.PlainLines.{digits-none, digits-on}
use Rattle.size_lines.proofs.plain_line.Goals as goal

pub loop-at-init : goal.loop-at-init
loop-at-init c = digits-none

pub loop-at-preserved : goal.loop-at-preserved
loop-at-preserved c =
    digits-on c.loop-at.invariant c.loop-at-test.true c.hex_value-digit.ensures (omega arith) c.if-at-eq-LINE_LIMIT.false (omega arith)
