-- `lines::all_hex` meets its contract. The largest value before `at` tells of the bytes there.
use mathlib.Core.Path.{◌≡◌}
use mathlib.Core.Bool.{◌&&◌}
use Prim.Native.Nat.{◌≤◌}
use lib.Dec.{ltb}
use lib.ListN.{length, drop}
use Rattle.octets.specs.Bytes.{hex?}
use Rattle.numerals.specs.Numeral.{every}
use Rattle.lines.proofs.all_hex.Given as goal

abbrev pub invariant-loop-b : goal.invariant-loop-b
invariant-loop-b l = (l.b-index ≤ length l.line) × ((ltb l.most 16 && every hex? (drop l.b-index l.line)) ≡ every hex? l.line)
