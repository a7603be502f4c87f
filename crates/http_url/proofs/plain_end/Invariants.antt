-- `http_url::plain_end`: what was passed is a stretch.
use Rattle.std.proofs.Common.{◌-◌, ◌≤◌, length}
use Rattle.http_url.specs.Bytes.{path?}
use Rattle.http_url.specs.helpers.Scan.{Stretch}
use Rattle.http_url.proofs.plain_end.Given as goal

abbrev pub invariant-loop-i : goal.invariant-loop-i
invariant-loop-i l = record { plain : Stretch path? l.s l.from l.i; within : l.i ≤ length l.s }

abbrev pub decreases-loop-i : goal.decreases-loop-i
decreases-loop-i l = length l.s - l.i
