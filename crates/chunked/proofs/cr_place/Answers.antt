-- `chunked::cr_place` meets its contract. No CR stands before `at`.
use Rattle.std.proofs.Common.{arith}
use Rattle.chunked.proofs.Long.{no_cr-on}
use Rattle.chunked.proofs.cr_place.Goals as goal

pub returns-then-input-at-eq13 : goal.returns-then-input-at-eq13
returns-then-input-at-eq13 c =
    let i = c.loop-at.invariant in
    record { starts = i.0; within = i.1; none = i.2; here = λ _. c.if-input-at-eq13.true }

pub loop-at-preserved : goal.loop-at-preserved
loop-at-preserved c =
    let i = c.loop-at.invariant in
    let s = c.args in
    (omega (arith, i.0), omega arith, no_cr-on s.input.now s.from c.loop-at.at i.2 c.if-input-at-eq13.false)
