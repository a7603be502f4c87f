-- `chunked::copy` meets its contract. The loop stands before a chunk line, with the data behind it written; chunks with the rest follow.
use Rattle.std.proofs.Common.{◌≡◌, ℕ, ◌+◌, ◌-◌}
use Rattle.chunked.specs.helpers.Passes.{Copied, Known, ChunksTo}
use Rattle.chunked.specs.helpers.Tails.{TailKnown}
use Rattle.chunked.proofs.copy.Given as goal

abbrev pub invariant-loop-written : goal.invariant-loop-written
invariant-loop-written l =
    Copied l.input l.initial.out l.out l.len l.at l.written × Known l.input l.last × TailKnown l.input l.tail
    × (n : ℕ) × (l.written + n ≡ l.len) × (j : ℕ) × ChunksTo l.input l.at j n

abbrev pub decreases-loop-written : goal.decreases-loop-written
decreases-loop-written l = l.len - l.written
