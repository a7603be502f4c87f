-- `chunked::line` meets its contract. The loop stands behind digits with that value; the digits end before another byte.
use Rattle.chunked.proofs.Lines.{InSize}
use Rattle.chunked.proofs.line.Given as goal

abbrev pub invariant-loop-at : goal.invariant-loop-at
invariant-loop-at l = InSize l.room l.input l.start l.total l.value l.at
