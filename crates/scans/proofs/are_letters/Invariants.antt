-- `scans::are_letters` meets its contract: where all were letters so far, each byte passed is in a token.
use Rattle.std.proofs.Common.{◌≡◌, ℕ, ◌<◌, true, get_or}
use Rattle.octets.specs.Bytes.{token?}
use Rattle.scans.proofs.are_letters.Given as goal

abbrev pub invariant-loop-b : goal.invariant-loop-b
invariant-loop-b l = l.all ≡ true → (k : ℕ) → k < l.b-index → token? (get_or l.block k 0) ≡ true
