-- `http_url::read_query` meets its contract: each way out is what the grammar leaves there.
use Rattle.std.proofs.Common.{ℕ, ◌+◌, Result, Ok, Err, sym}
use Rattle.std.proofs.lemmas.Result.{err_from_is_err_and}
use Rattle.octets.specs.declared.Refusal.{Refusal}
use Rattle.http_url.specs.Bytes.{query?}
use Rattle.http_url.specs.helpers.Scan.{Found}
use Rattle.http_url.proofs.Tables.{query-bits}
use Rattle.http_url.proofs.Stretches.{found-behind, stretch_query}
use Rattle.http_url.proofs.Scan.{query-breaks, query-goes-on, query-up, query-reads}
use Rattle.http_url.proofs.read_query.Goals as goal
use Rattle.http_url.proofs.read_query.Goals.{After-text_end}

-- what is found behind the plain bytes is found from before them
found : (c : goal.After-text_end) → (x : Result ℕ Refusal) → Found query? c.args.s.now c.plain_end.result x → Found query? c.args.s.now (c.args.at + 1) x
found c x w =
    let e = c.plain_end in
    let s = c.args.s.now in
    let from = c.args.at + 1 in
    found-behind query? s from e.result (stretch_query s from e.result e.ensures.plain) x w

pub returns-in_err-end : goal.returns-in_err-end
returns-in_err-end c =
    let x = c.args in
    let p = err_from_is_err_and c.from_residual.result c.from_residual.ensures.1 in
    let r = c.in_err-end.field-0.0 in
    let w = found ((goal.at.returns-in_err-end c).After-text_end) (Err r) (c.in_err-end.ensures query? query-bits) in
    rw (p.1, p.2) (sym (query-breaks x.s.now x.host_end x.port x.path_start x.at c.requires c.if-at-s.false c.if-s-at-ne63.false r w))

pub returns-then-end-s : goal.returns-then-end-s
returns-then-end-s c =
    let x = c.args in
    let w = found ((goal.at.returns-then-end-s c).After-text_end) (Ok c.in_ok-end.end) (c.in_ok-end.ensures query? query-bits) in
    sym (query-goes-on x.s.now x.host_end x.port x.path_start x.at c.requires c.if-at-s.false c.if-s-at-ne63.false _ w c.if-end-s.true)

pub between-requires-2 : goal.between-requires-2
between-requires-2 c =
    let x = c.args in
    let w = found ((goal.at.between-requires-2 c).After-text_end) (Ok c.in_ok-end.end) (c.in_ok-end.ensures query? query-bits) in
    query-up x.s.now x.host_end x.port x.path_start x.at c.requires c.if-at-s.false c.if-s-at-ne63.false _ w

pub returns : goal.returns
returns c =
    let x = c.args in
    let w = found ((goal.at.returns c).After-text_end) (Ok c.in_ok-end.end) (c.in_ok-end.ensures query? query-bits) in
    let reads = query-reads x.s.now x.host_end x.port x.path_start x.at c.requires in
    rw (c.url_with-2.ensures, c.between.ensures, c.between-2.ensures)
    (sym (reads c.if-at-s.false c.if-s-at-ne63.false _ w c.if-end-s.false))
