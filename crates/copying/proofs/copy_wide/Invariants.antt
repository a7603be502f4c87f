-- `copying::copy_wide` meets its contract. The first `at` bytes are copied, and a byte is left.
use Rattle.copying.specs.helpers.Runs.{Front}
use lib.ListN.{length}
use Prim.Native.Nat.{◌-◌, ◌<◌, ◌≤◌}
use Rattle.copying.proofs.copy_wide.Given as goal

abbrev pub invariant-loop-at : goal.invariant-loop-at
invariant-loop-at l = (length l.src ≤ length l.initial.dst) × (l.at < l.len) × Front l.initial.dst l.src l.dst l.at

abbrev pub decreases-loop-at : goal.decreases-loop-at
decreases-loop-at l = l.len - l.at
