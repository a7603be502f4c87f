-- `chunked::tail_of` meets its contract.
use Rattle.std.proofs.Common.{arith}
use Rattle.chunked.proofs.Tails.{digits-few, tail_there}
use Rattle.chunked.proofs.tail_of.Goals as goal

pub overflow_sub-length-2 : goal.overflow_sub-length-2
overflow_sub-length-2 c =
    omega (arith, digits-few (c.requires.line (omega arith)).1 c.digits_end-end.ensures)

pub returns : goal.returns
returns c = λ _.
    tail_there (c.requires.line (omega arith)).1 c.digits_end-end.ensures (omega arith)
