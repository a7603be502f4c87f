-- `ranges::read_elements` meets its contract: the table holds the ranges of the elements that were read.
use Prim.Native.Nat.{◌-◌}
use lib.ListN.{length}
use Rattle.ranges.proofs.Filled.{Filling}
use Rattle.ranges.proofs.read_elements.Given as goal

abbrev pub invariant-loop-at : goal.invariant-loop-at
invariant-loop-at l = Filling l.entity_length l.s l.entries l.count l.elements l.at

abbrev pub decreases-loop-at : goal.decreases-loop-at
decreases-loop-at l = length l.s - l.at
