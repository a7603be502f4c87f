-- `products::read` meets its contract: at each turn of its loop an item must stand at `at`, and what was found before it is counted.
use Prim.Native.Nat.{◌-◌}
use lib.ListN.{length}
use Rattle.products.specs.helpers.Scan.{Found}
use Rattle.products.proofs.read.Given as goal

abbrev pub invariant-loop-item : goal.invariant-loop-item
invariant-loop-item l = Found l.s l.at l.found

abbrev pub decreases-loop-item : goal.decreases-loop-item
decreases-loop-item l = length l.s - l.at
