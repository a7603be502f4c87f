-- `chunked::digits_end` meets its contract. The loop stands behind digits.
use Rattle.std.proofs.Common.{◌≡◌, ℕ, ◌<◌, ◌≤◌, true, length, get_or}
use Rattle.octets.specs.Bytes.{hex?}
use Rattle.chunked.proofs.digits_end.Given as goal

abbrev pub invariant-loop-at : goal.invariant-loop-at
invariant-loop-at l = (l.from ≤ l.at) × (l.at ≤ length l.input) × ((k : ℕ) → l.from ≤ k → k < l.at → hex? (get_or l.input k 0) ≡ true)
