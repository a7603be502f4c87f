-- `chunked::decide` meets its contract. The loop stands before a chunk line, behind chunks with as much data as its total says.
use Rattle.std.proofs.Common.{ℕ, arith}
use Rattle.chunked.specs.helpers.Passes.{no_chunk}
use Rattle.chunked.proofs.Passes.{at-start, first_fits}
use Rattle.chunked.proofs.Lines.{last_on}
use Rattle.chunked.proofs.Chunks.{none-known, read-known, chunk-on, chunk-more, in_chunks}
use Rattle.chunked.proofs.decide.Goals as goal

pub loop-run-init : goal.loop-run-init
loop-run-init c = record { at = at-start; known = none-known; chunks = no_chunk }

pub closing-requires : goal.closing-requires
closing-requires c = last_on c.loop-run.invariant.at (c.last_line.ensures c.if-last_line.true)

pub returns-then-last_line-clause-chunks : goal.returns-then-last_line-clause-chunks
returns-then-last_line-clause-chunks c =
    let a = c.ending_answer-answer in
    let i = c.loop-run.invariant in
    (in_chunks a.result c.closing.result a.ensures (first_fits i.at) i.chunks, i.known)

pub loop-run-preserved : goal.loop-run-preserved
loop-run-preserved c =
    let r = c.in-Ok.ensures in
    let i = c.loop-run.invariant in
    record {
      at = chunk-on (λ (k : ℕ). omega (arith, c.type_inv.input k)) i.at r.2 r.1;
      known = read-known r.0 r.2;
      chunks = chunk-more i.chunks r.2;
    }

pub returns-in-Err-clause-chunks : goal.returns-in-Err-clause-chunks
returns-in-Err-clause-chunks c =
    let a = c.ending_answer-answer-in-Err in
    let i = c.loop-run.invariant in
    (in_chunks a.result c.in-Err.ending a.ensures (first_fits i.at) i.chunks, i.known)
