-- `http_url::are_plain`: where all were plain so far, each byte passed is in a path.
use Rattle.std.proofs.Common.{◌≡◌, ℕ, ◌+◌, ◌<◌, true, get_or}
use Rattle.http_url.specs.Bytes.{path?}
use Rattle.http_url.proofs.are_plain.Given as goal

abbrev pub invariant-loop-i : goal.invariant-loop-i
invariant-loop-i l = l.all ≡ true → (k : ℕ) → k < l.i → path? (get_or l.s (l.from + k) 0) ≡ true
