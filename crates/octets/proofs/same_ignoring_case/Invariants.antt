-- `octets::same_ignoring_case` meets its contract: what is left of both is alike just where the whole is.
use Rattle.std.proofs.Common.{◌≡◌, ◌-◌, ◌&&◌, length, drop}
use Rattle.octets.specs.Case.{alike}
use Rattle.octets.proofs.same_ignoring_case.Given as goal

abbrev pub invariant-loop-i : goal.invariant-loop-i
invariant-loop-i l = (length l.a ≡ length l.b) × ((l.equal && alike (drop l.i l.a) (drop l.i l.b)) ≡ alike l.a l.b)

abbrev pub decreases-loop-i : goal.decreases-loop-i
decreases-loop-i l = length l.a - l.i
