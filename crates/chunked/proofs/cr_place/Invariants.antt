-- `chunked::cr_place` meets its contract. No CR stands before `at`.
use Rattle.std.proofs.Common.{◌≡◌, ℕ, ◌<◌, ◌≤◌, length, get_or}
use Rattle.chunked.proofs.cr_place.Given as goal

abbrev pub invariant-loop-at : goal.invariant-loop-at
invariant-loop-at l = (l.from ≤ l.at) × (l.at ≤ length l.input) × ((k : ℕ) → l.from ≤ k → k < l.at → get_or l.input k 0 ≡ 13 → ⊥)
