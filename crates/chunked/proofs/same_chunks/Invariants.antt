-- `chunked::same_chunks` meets its contract.
use Rattle.std.proofs.Common.{◌-◌, ◌≤◌, length}
use Rattle.chunked.specs.helpers.Passes.{Known}
use Rattle.chunked.proofs.Chunks.{Stands}
use Rattle.chunked.proofs.same_chunks.Given as goal

abbrev pub invariant-loop-at : goal.invariant-loop-at
invariant-loop-at l = Stands l.room l.input l.at l.total × Known l.input l.last × (l.initial.at ≤ l.at)

abbrev pub decreases-loop-at : goal.decreases-loop-at
decreases-loop-at l = length l.input - l.at
