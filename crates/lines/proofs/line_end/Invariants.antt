-- `lines::line_end` meets its contract. No LF stands before `i`.
use Rattle.lines.specs.helpers.Ends.{NoneBefore}
use Rattle.lines.proofs.line_end.Given as goal

abbrev pub invariant-loop-i : goal.invariant-loop-i
invariant-loop-i l = NoneBefore l.s l.i
