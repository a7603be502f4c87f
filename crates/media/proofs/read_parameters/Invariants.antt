-- `media::read_parameters` meets its contract: the table holds what was found.
use Prim.Native.Nat.{◌-◌}
use lib.ListN.{length}
use Rattle.media.proofs.Filled.{Filling}
use Rattle.media.proofs.read_parameters.Given as goal

abbrev pub invariant-loop-at : goal.invariant-loop-at
invariant-loop-at l = Filling l.s l.media.names l.media.parameters l.at

abbrev pub decreases-loop-at : goal.decreases-loop-at
decreases-loop-at l = length l.s - l.at
