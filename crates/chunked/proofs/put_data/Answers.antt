-- `chunked::put_data` meets its contract.
use Rattle.std.proofs.Common.{arith}
use Rattle.chunked.proofs.Copies.{lay}
use Rattle.chunked.proofs.put_data.Goals as goal

pub returns-then-left-ge-WIDE : goal.returns-then-left-ge-WIDE
returns-then-left-ge-WIDE c =
    lay c.args.input.now c.args.out.now _ c.args.start c.args.written c.args.size 64 c.args.len
    (omega arith) (omega arith) (omega arith) c.requires.1 c.copy.ensures

pub returns-else-one_width : goal.returns-else-one_width
returns-else-one_width c =
    lay c.args.input.now c.args.out.now _ c.args.start c.args.written c.args.size c.args.size c.args.len
    (omega arith) (omega (arith, c.requires.0, c.requires.2)) c.requires.0 c.requires.1 c.copy_long.ensures
