-- `date::first_name` meets its contract: the first k names do not agree, and of the next one the first j bytes do.
use Prim.Native.Nat.{◌-◌, ◌/◌, ◌<◌}
use mathlib.Core.Path.{◌≡◌}
use lib.ListN.{length}
use Rattle.date.proofs.Tables.{Passed, Agrees}
use Rattle.date.proofs.first_name.Given as goal

abbrev pub invariant-names : goal.invariant-names
invariant-names l = Passed l.names l.s l.at l.k

abbrev pub decreases-names : goal.decreases-names
decreases-names l = length l.names / 3 - l.k

abbrev pub invariant-loop-j : goal.invariant-loop-j
invariant-loop-j l = (l.k < length l.names / 3) × Passed l.names l.s l.at l.k × Agrees l.names l.s l.at l.k l.j × (l.k ≡ l.initial.k)
