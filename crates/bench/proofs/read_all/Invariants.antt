-- `bench::read_all` meets its contract. The piece keeps its length, and a line's bytes fit.
use Rattle.std.proofs.Common.{◌≡◌, ◌≤◌, length}
use Rattle.bench.proofs.read_all.Given as goal

abbrev pub invariant-reads : goal.invariant-reads
invariant-reads g l =
    (length l.piece ≤ 16384) × (length l.buffers.out ≡ 262160) × (l.held ≤ length l.buffers.line)
