-- `http_url::hex_digits`: each byte passed is a hex digit.
use Rattle.std.proofs.Common.{◌≡◌, ℕ, ◌+◌, ◌<◌, ◌≤◌, true, length, get_or}
use Rattle.octets.specs.Bytes.{hex?}
use Rattle.http_url.proofs.hex_digits.Given as goal

abbrev pub invariant-loop-n : goal.invariant-loop-n
invariant-loop-n l = (l.at + l.n ≤ length l.s) × ((k : ℕ) → k < l.n → hex? (get_or l.s (l.at + k) 0) ≡ true)
