-- `lines::put_pairs` meets its contract. The first `at` pairs are put.
use Rattle.lines.proofs.Hexes.{Filling}
use Rattle.lines.proofs.put_pairs.Given as goal

abbrev pub invariant-loop-i : goal.invariant-loop-i
invariant-loop-i l = Filling l.line l.initial.out l.out l.i
