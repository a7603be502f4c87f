-- `chunked::size_at` meets its contract. The loop stands behind digits of the line, which make that value.
use Rattle.std.proofs.Common.{ℕ}
use Rattle.chunked.specs.helpers.Passes.{ChunkAt}
use Rattle.chunked.proofs.Long.{InDigits}
use Rattle.chunked.proofs.size_at.Given as goal

abbrev pub invariant-loop-end : goal.invariant-loop-end
invariant-loop-end l = (w : ℕ) × (v : ℕ) × (c : ChunkAt l.input l.at w v) × InDigits c l.end l.value
