-- `language::read_subtags` meets its contract: behind each part, the answer is what the grammar leaves there.
use Prim.Native.Nat.{◌-◌}
use lib.ListN.{length}
use Rattle.language.specs.helpers.Scan.{Behind}
use Rattle.language.proofs.read_subtags.Given as goal

abbrev pub invariant-loop-at : goal.invariant-loop-at
invariant-loop-at l = Behind l.s l.parts l.primary_length l.at

abbrev pub decreases-loop-at : goal.decreases-loop-at
decreases-loop-at l = length l.s - l.at
