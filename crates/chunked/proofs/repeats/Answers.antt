-- `chunked::repeats` meets its contract.
use Rattle.std.proofs.Common.{arith}
use Rattle.chunked.proofs.Short.{known-line}
use Rattle.chunked.proofs.Chunks.{same-line-at}
use Rattle.chunked.proofs.repeats.Goals as goal

pub returns : goal.returns
returns c = λ e.
    known-line c.requires.1.2 (same-line-at c.requires.0 (omega arith) (omega arith) (c.same_line.ensures e))
