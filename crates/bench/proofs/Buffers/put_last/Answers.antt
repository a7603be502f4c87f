-- `bench::Buffers::put_last` meets its contract. By whether bytes are held.
use native.Mathlib.Omega.{arith}
use lib.ListN.{take}
use Rattle.report.proofs.Pieces.{last-nothing, last-answered}
use Rattle.bench.proofs.Buffers.put_last.Goals as goal

pub returns-then-is_empty : goal.returns-then-is_empty
returns-then-is_empty c =
    let b = c.args.self.now in
    let p = last-nothing (take c.args.held b.line) b.out (grind arith) in
    record { says = p.0; keeps = p.1 }

pub returns : goal.returns
returns c =
    let b = c.args.self.now in
    let p = last-answered (take c.args.held b.line) b.out (grind arith) (omega arith)
    c.put_line.ensures.ends c.put_line.ensures.says in
    record { says = p.0; keeps = p.1 }
