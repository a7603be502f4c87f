-- `Pieces::pass_data` meets its contract.
use native.Mathlib.Omega.{arith}
use mathlib.Core.Path.{sym, subst}
use Rattle.pieces.specs.helpers.Runs.{Passed}
use Rattle.pieces.proofs.Passing.{data_left, part-passed, data_passed, chunk-passed}
use Rattle.pieces.proofs.Pieces.pass_data.Goals as goal

pub overflow_add-left : goal.overflow_add-left
overflow_add-left c =
    omega (arith, data_left c.args.self c.requires.0.sound c.requires.1)

pub overflow_sub-total : goal.overflow_sub-total
overflow_sub-total c =
    omega (arith, data_left c.args.self c.requires.0.sound c.requires.1)

pub overflow_sub-total-2 : goal.overflow_sub-total-2
overflow_sub-total-2 c =
    omega (arith, data_left c.args.self c.requires.0.sound c.requires.1)

pub returns-then-run-left-clause-goes : goal.returns-then-run-left-clause-goes
returns-then-run-left-clause-goes c =
    let n = c.min-run in
    subst (λ r. Passed c.args.self c.args.bytes.now c.args.out.now r c.put_bytes.new.out) (sym c.moved.ensures)
    (part-passed c.args.self c.args.bytes.now n.result c.requires.0 c.requires.1 c.requires.2 (λ k. omega (arith, c.type_inv.bytes k))
    (omega (arith, n.ensures)) c.put_bytes.ensures.writes c.if-run-left.true)

pub returns-then-bytes-run-eq10-clause-goes : goal.returns-then-bytes-run-eq10-clause-goes
returns-then-bytes-run-eq10-clause-goes c =
    let n = c.min-run in
    rw (c.moved-then-bytes-run-eq10.ensures, c.line_start.ensures)
    (chunk-passed c.args.self c.args.bytes.now n.result c.requires.0 c.requires.1 c.requires.2 (λ k. omega (arith, c.type_inv.bytes k))
    (omega (arith, n.ensures)) c.put_bytes.ensures.writes (omega (arith, c.if-run-left.false, n.ensures))
    (omega (arith, c.if-bytes-run-ge2.true, n.ensures)) c.if-bytes-run-eq13.true c.if-bytes-run-eq10.true)

pub returns-clause-goes : goal.returns-clause-goes
returns-clause-goes c =
    let n = c.min-run in
    subst (λ r. Passed c.args.self c.args.bytes.now c.args.out.now r c.put_bytes.new.out) (sym c.moved-2.ensures)
    (data_passed c.args.self c.args.bytes.now n.result c.requires.0 c.requires.1 c.requires.2 (λ k. omega (arith, c.type_inv.bytes k))
    (omega (arith, n.ensures)) c.put_bytes.ensures.writes (omega (arith, c.if-run-left.false, n.ensures)))
