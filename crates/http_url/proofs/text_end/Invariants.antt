-- `http_url::text_end` goes on over a stretch: what was passed is a stretch.
use Rattle.std.proofs.Common.{ℕ, ◌-◌, ◌≤◌, Bool, length}
use Rattle.octets.specs.helpers.Bits.{Bits}
use Rattle.http_url.specs.helpers.Scan.{Stretch}
use Rattle.http_url.proofs.text_end.Given as goal

abbrev pub invariant-loop-i : goal.invariant-loop-i
invariant-loop-i l = (l.i ≤ length l.s) × ((p : ℕ → Bool) → Bits l.class p → Stretch p l.s l.from l.i)

abbrev pub decreases-loop-i : goal.decreases-loop-i
decreases-loop-i l = length l.s - l.i
