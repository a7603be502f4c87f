-- `chunked::extensions` meets its contract. The loop stands behind the digits, at the position `pos`.
use Rattle.chunked.proofs.Lines.{InExt}
use Rattle.chunked.proofs.extensions.Given as goal

abbrev pub invariant-loop-at : goal.invariant-loop-at
invariant-loop-at l = InExt l.room l.input l.line l.total l.size l.pos l.at
