-- `lines::gather` meets its contract. The bytes that fit go behind those held.
use mathlib.Core.Path.{sym}
use mathlib.Core.Bool.{true, false}
use Rattle.std.proofs.Common.{lt-ltb, le-ltb}
use native.Mathlib.Omega.{arith}
use Rattle.lines.proofs.Gathers.{fit, part_length, gathered-is}
use Rattle.lines.proofs.gather.Goals as goal

pub slice_bounds-put_bytes-end : goal.slice_bounds-put_bytes-end
slice_bounds-put_bytes-end c =
    let fits = fit c.args.line.now c.args.held c.args.piece.now {start = c.min-start.result} {count = c.min-count.result} c.line_end-end.ensures
    (omega arith) (omega arith) in
    sym (part_length fits)

pub returns-then-ended : goal.returns-then-ended
returns-then-ended c =
    let fits = fit c.args.line.now c.args.held c.args.piece.now {start = c.min-start.result} {count = c.min-count.result} c.line_end-end.ensures
    (omega arith) (omega arith) in
    let p = gathered-is fits (c.put_bytes-held.ensures.ends, c.put_bytes-held.ensures.writes) true (lt-ltb _ _ c.if-ended.true) in
    record { answers = p.0; writes = p.1 }

pub returns-else-ended : goal.returns-else-ended
returns-else-ended c =
    let fits = fit c.args.line.now c.args.held c.args.piece.now {start = c.min-start.result} {count = c.min-count.result} c.line_end-end.ensures
    (omega arith) (omega arith) in
    let p = gathered-is fits (c.put_bytes-held.ensures.ends, c.put_bytes-held.ensures.writes) false (le-ltb _ _ c.if-ended.false) in
    record { answers = p.0; writes = p.1 }
