-- `qvalue::digit_at` meets its contract.
use Rattle.std.proofs.Common.{get_or, arith}
use Rattle.qvalue.proofs.Scan.{digit_small, any_default}
use Rattle.qvalue.proofs.digit_at.Goals as goal

pub overflow_sub-s : goal.overflow_sub-s
overflow_sub-s c =
    let e = any_default c.args.s.now c.args.i c.if-i-s.true in
    omega (arith, digit_small (get_or c.args.s.now c.args.i 48) c.requires)

pub returns-then-i-s : goal.returns-then-i-s
returns-then-i-s c =
    let e = any_default c.args.s.now c.args.i c.if-i-s.true in
    let d = digit_small (get_or c.args.s.now c.args.i 48) c.requires in
    (omega (arith, c.from.ensures), omega (arith, c.from.ensures))
