-- `chunked::close` meets its contract.
use Rattle.std.proofs.Common.{arith}
use Rattle.chunked.proofs.Passes.{at_more, last_more, last-refused, last-whole}
use Rattle.chunked.proofs.Lines.{close-refused, close-whole}
use Rattle.chunked.proofs.close.Goals as goal

pub overflow_sub-input : goal.overflow_sub-input
overflow_sub-input c = omega (arith, c.requires.1.within)

pub returns-then-input-end-le1 : goal.returns-then-input-end-le1
returns-then-input-end-le1 c = last_more (at_more c.requires.1 (omega arith))

pub returns-then-input-end-ne10 : goal.returns-then-input-end-ne10
returns-then-input-end-ne10 c =
    let p = c.requires in
    last-refused (close-refused p.0 p.1 (omega arith) c.if-input-end-ne10.true)

pub returns : goal.returns
returns c =
    let p = c.requires in
    last-whole (omega (arith, p.0)) (close-whole p.0 p.1 (omega arith) c.if-input-end-ne10.false)
