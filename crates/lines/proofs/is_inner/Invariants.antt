-- `lines::is_inner` meets its contract. The flag tells of the bytes before `at`.
use mathlib.Core.Path.{◌≡◌}
use mathlib.Core.Bool.{◌&&◌}
use Prim.Native.Nat.{◌≤◌}
use lib.ListN.{length, drop}
use Rattle.numerals.specs.Numeral.{every}
use Rattle.lines.specs.helpers.Ends.{inner?}
use Rattle.lines.proofs.is_inner.Given as goal

abbrev pub invariant-loop-b : goal.invariant-loop-b
invariant-loop-b l = (l.b-index ≤ length l.part) × ((l.inner && every inner? (drop l.b-index l.part)) ≡ every inner? l.part)
