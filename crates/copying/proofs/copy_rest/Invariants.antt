-- `copying::copy_rest` meets its contract. The first `at` bytes are copied, and a byte is left for the last block.
use Rattle.copying.specs.helpers.Runs.{Front}
use lib.ListN.{length}
use Prim.Native.Nat.{◌-◌, ◌<◌, ◌≤◌}
use Rattle.copying.proofs.copy_rest.Given as goal

abbrev pub invariant-loop-at : goal.invariant-loop-at
invariant-loop-at l = (length l.src ≤ length l.initial.dst) × (16 ≤ l.len) × (l.at < l.len) × Front l.initial.dst l.src l.dst l.at

abbrev pub decreases-loop-at : goal.decreases-loop-at
decreases-loop-at l = l.len - l.at
