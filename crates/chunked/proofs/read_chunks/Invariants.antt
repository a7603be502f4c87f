-- `chunked::read_chunks` meets its contract. The loop stands before a chunk line, behind chunks with what the room has lost.
use Rattle.std.proofs.Common.{◌≡◌, ℕ, ◌+◌, ◌-◌, ◌≤◌, length}
use Rattle.chunked.proofs.Chunks.{Stands}
use Rattle.chunked.proofs.read_chunks.Given as goal

abbrev pub invariant-loop-total : goal.invariant-loop-total
invariant-loop-total g l =
    (t : ℕ) × (t + l.left ≡ l.room) × Stands l.room l.input l.at t × (l.fn.run.at ≤ l.at)

abbrev pub decreases-loop-total : goal.decreases-loop-total
decreases-loop-total g l = length l.input - l.at
