-- `scans::letters_end` meets its contract: from behind each block the run ends at the same place.
use Rattle.std.proofs.Common.{◌≡◌, ◌-◌, length}
use Rattle.octets.specs.Bytes.{token?}
use Rattle.scans.specs.helpers.Runs.{run_end}
use Rattle.scans.proofs.letters_end.Given as goal

abbrev pub invariant-loop-i : goal.invariant-loop-i
invariant-loop-i l = run_end token? l.s l.i ≡ run_end token? l.s l.from

abbrev pub decreases-loop-i : goal.decreases-loop-i
decreases-loop-i l = length l.s - l.i
