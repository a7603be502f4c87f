-- `scans::read_decimal` meets its contract: with the number read so far in front, what is left reads as the whole does.
use Rattle.std.proofs.Common.{◌≡◌, ◌≤◌}
use Rattle.scans.specs.helpers.Decimals.{decimal_at}
use Rattle.scans.proofs.Numbers.{decimal_from}
use Rattle.scans.proofs.read_decimal.Given as goal

abbrev pub invariant-loop-i : goal.invariant-loop-i
invariant-loop-i l = (l.value ≤ l.limit) × (decimal_from l.limit l.from l.value l.s l.i ≡ decimal_at l.limit l.s l.from)
