-- `qvalue::read` meets its contract: each way out is what the grammar leaves there.
use Rattle.std.proofs.Common.{arith}
use Rattle.qvalue.proofs.Scan.{zero-whole, one-whole}
use Rattle.qvalue.proofs.read.Goals as goal

pub read_fraction-requires : goal.read_fraction-requires
read_fraction-requires c =
    let h = c.in-Some-eq48.ensures.item in
    zero-whole c.args.s.now c.in_ok-check_length.ensures (grind arith) (grind arith)

pub read_fraction-requires-in-Some-eq49 : goal.read_fraction-requires-in-Some-eq49
read_fraction-requires-in-Some-eq49 c =
    let h = c.in-Some-eq49.ensures.item in
    one-whole c.args.s.now c.in_ok-check_length.ensures (grind arith) (grind arith)
