-- `http_url::read_path` meets its contract: each way out is what the grammar leaves there.
use Rattle.std.proofs.Common.{ℕ, ◌+◌, Result, Ok, Err, sym}
use Rattle.std.proofs.lemmas.Result.{err_from_is_err_and}
use Rattle.octets.specs.declared.Refusal.{Refusal}
use Rattle.http_url.specs.Bytes.{path?}
use Rattle.http_url.specs.helpers.Scan.{Found}
use Rattle.http_url.proofs.Tables.{path-bits}
use Rattle.http_url.proofs.Stretches.{found-behind}
use Rattle.http_url.proofs.Scan.{path-breaks, path-reads}
use Rattle.http_url.proofs.read_path.Goals as goal
use Rattle.http_url.proofs.read_path.Goals.{After-text_end}

-- what is found behind the plain bytes is found from before them
found : (c : goal.After-text_end) → (x : Result ℕ Refusal) → Found path? c.args.s.now c.plain_end.result x → Found path? c.args.s.now (c.args.at + 1) x
found c x w = found-behind path? c.args.s.now (c.args.at + 1) c.plain_end.result c.plain_end.ensures.plain x w

pub returns-in_err-end : goal.returns-in_err-end
returns-in_err-end c =
    let x = c.args in
    let p = err_from_is_err_and c.from_residual.result c.from_residual.ensures.1 in
    let r = c.in_err-end.field-0.0 in
    let w = found ((goal.at.returns-in_err-end c).After-text_end) (Err r) (c.in_err-end.ensures path? path-bits) in
    rw (p.1, p.2) (sym (path-breaks x.s.now x.host_end x.port x.at c.requires c.if-at-s.false c.if-s-at-ne47.false r w))

pub read_query-requires : goal.read_query-requires
read_query-requires c =
    let x = c.args in
    let w = found ((goal.at.read_query-requires c).After-text_end) (Ok c.in_ok-end.end) (c.in_ok-end.ensures path? path-bits) in
    path-reads x.s.now x.host_end x.port x.at c.requires c.if-at-s.false c.if-s-at-ne47.false _ w
