-- `scans::class_end` meets its contract: from each place passed the run ends at the same place.
use Rattle.std.proofs.Common.{◌≡◌, ℕ, Bool}
use Rattle.octets.specs.helpers.Bits.{Bits}
use Rattle.scans.specs.helpers.Runs.{run_end}
use Rattle.scans.proofs.class_end.Given as goal

abbrev pub invariant-loop-i : goal.invariant-loop-i
invariant-loop-i l = (p : ℕ → Bool) → Bits l.class p → run_end p l.s l.i ≡ run_end p l.s l.from
