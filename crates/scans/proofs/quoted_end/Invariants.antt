-- `scans::quoted_end` meets its contract: from behind each run of text and each pair, the text and pairs stop at the same place.
use Rattle.std.proofs.Common.{◌≡◌, ◌-◌, length}
use Rattle.scans.specs.helpers.Quoted.{quoted_end}
use Rattle.scans.proofs.quoted_end.Given as goal

abbrev pub invariant-loop-from : goal.invariant-loop-from
invariant-loop-from l = quoted_end l.s l.i ≡ quoted_end l.s l.from

abbrev pub decreases-loop-from : goal.decreases-loop-from
decreases-loop-from l = length l.s - l.i
