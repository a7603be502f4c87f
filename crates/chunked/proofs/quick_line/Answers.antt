-- `chunked::quick_line` meets its contract.
use Rattle.std.proofs.Common.{arith}
use Rattle.chunked.proofs.Chunks.{none-known}
use Rattle.chunked.proofs.quick_line.Goals as goal

pub returns-then-repeats : goal.returns-then-repeats
returns-then-repeats c = (c.requires.0, λ h. c.repeats.ensures c.if-repeats.true)

pub tailed_line-requires : goal.tailed_line-requires
tailed_line-requires c =
    let p = c.requires in
    (p.2, p.1 (omega arith))

pub returns : goal.returns
returns c = (none-known, λ h. absurd (omega arith))
