-- `scans::text_end` meets its contract: from each place passed the text ends at the same place.
use Rattle.std.proofs.Common.{◌≡◌}
use Rattle.octets.specs.Bytes.{text?}
use Rattle.scans.specs.helpers.Runs.{run_end}
use Rattle.scans.proofs.text_end.Given as goal

abbrev pub invariant-loop-i : goal.invariant-loop-i
invariant-loop-i l = run_end text? l.s l.i ≡ run_end text? l.s l.from
