-- `size_lines::plain_line` meets its contract. The loop stands behind digits with that value.
use Prim.Native.Nat.{◌-◌}
use lib.ListN.{length}
use Rattle.size_lines.specs.helpers.Lines.{InDigits}
use Rattle.size_lines.proofs.plain_line.Given as goal

abbrev pub invariant-loop-at : goal.invariant-loop-at
invariant-loop-at l = InDigits l.bytes l.left l.at l.size

abbrev pub decreases-loop-at : goal.decreases-loop-at
decreases-loop-at l = length l.bytes - l.at
