-- `chunked::chunk` meets its contract.
use Rattle.std.proofs.Common.{ℕ, arith}
use Rattle.chunked.proofs.Passes.{at_more, last_more, last-refused}
use Rattle.chunked.proofs.Chunks.{cr-refused, cr-on, lf-refused, data_on, data_more, chunk_read}
use Rattle.chunked.proofs.chunk.Goals as goal

pub returns-then-input-start : goal.returns-then-input-start
returns-then-input-start c =
    let r = c.in_ok-line.ensures in
    last_more (data_more (λ (k : ℕ). omega (arith, c.type_inv.input k)) r.1 r.2 c.if-input-start.true)

pub returns-then-input-end-ne13 : goal.returns-then-input-end-ne13
returns-then-input-end-ne13 c =
    let r = c.in_ok-line.ensures in
    let behind = data_on (λ (k : ℕ). omega (arith, c.type_inv.input k)) r.1 r.2 (omega arith) in
    last-refused (cr-refused behind (omega arith) c.if-input-end-ne13.true)

pub returns-then-input-end-le1 : goal.returns-then-input-end-le1
returns-then-input-end-le1 c =
    let r = c.in_ok-line.ensures in
    let behind = data_on (λ (k : ℕ). omega (arith, c.type_inv.input k)) r.1 r.2 (omega arith) in
    last_more (at_more (cr-on behind (omega arith) c.if-input-end-ne13.false) (omega arith))

pub returns-then-input-end-ne10 : goal.returns-then-input-end-ne10
returns-then-input-end-ne10 c =
    let r = c.in_ok-line.ensures in
    let behind = data_on (λ (k : ℕ). omega (arith, c.type_inv.input k)) r.1 r.2 (omega arith) in
    last-refused (lf-refused behind (omega arith) c.if-input-end-ne13.false (omega arith) c.if-input-end-ne10.true)

pub returns : goal.returns
returns c =
    let s = c.args in
    chunk_read s.room s.input.now s.at s.total c.in_ok-line.line c.in_ok-line.ensures (omega arith)
    c.if-input-end-ne13.false c.if-input-end-ne10.false
