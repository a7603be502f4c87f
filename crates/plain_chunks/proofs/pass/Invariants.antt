-- `plain_chunks::pass` meets its contract: the loop stands behind whole chunks.
use Prim.Native.Nat.{◌-◌}
use lib.ListN.{length}
use Rattle.size_lines.specs.helpers.Words.{ShortOf}
use Rattle.plain_chunks.proofs.Chunks.{Chunks}
use Rattle.plain_chunks.proofs.pass.Given as goal

abbrev pub invariant-loop-at : goal.invariant-loop-at
invariant-loop-at l = Chunks (length l.initial.out) l.bytes l.initial.out l.before l.at l.total l.out × ShortOf l.last

abbrev pub decreases-loop-at : goal.decreases-loop-at
decreases-loop-at l = length l.bytes - l.at
