-- `url_equal::same_url` meets its contract: host, port, path, query in turn.
use mathlib.Core.Path.{sym, ◌∙◌}
use Rattle.url_equal.proofs.Meaning.{host-compared, paths-compared, by_host, by_port, by_path, by_query}
use Rattle.url_equal.proofs.same_url.Goals as goal

pub returns-then-not-same_ignoring_case : goal.returns-then-not-same_ignoring_case
returns-then-not-same_ignoring_case c =
    let x = c.args in
    let f = c.same_ignoring_case in
    let h = host-compared x.a.now x.b.now x.u x.v _ _ f.result c.text_at.ensures c.text_at-2.ensures f.ensures in
    by_host x.a.now x.b.now x.u x.v (h ∙ c.if-not-same_ignoring_case.true)

pub returns-then-u-v : goal.returns-then-u-v
returns-then-u-v c =
    let x = c.args in
    let f = c.same_ignoring_case in
    let h = host-compared x.a.now x.b.now x.u x.v _ _ f.result c.text_at.ensures c.text_at-2.ensures f.ensures in
    by_port x.a.now x.b.now x.u x.v (h ∙ c.if-not-same_ignoring_case.false) c.if-u-v.true

pub returns-then-not-same : goal.returns-then-not-same
returns-then-not-same c =
    let x = c.args in
    let f = c.same_ignoring_case in
    let h = host-compared x.a.now x.b.now x.u x.v _ _ f.result c.text_at.ensures c.text_at-2.ensures f.ensures in
    by_path x.a.now x.b.now x.u x.v (h ∙ c.if-not-same_ignoring_case.false) c.if-u-v.false
    (sym (paths-compared x.a.now x.b.now x.u x.v _ _ c.same.result c.path_at.ensures c.path_at-2.ensures c.same.ensures) ∙ c.if-not-same.true)

pub returns : goal.returns
returns c =
    let x = c.args in
    let f = c.same_ignoring_case in
    let h = host-compared x.a.now x.b.now x.u x.v _ _ f.result c.text_at.ensures c.text_at-2.ensures f.ensures in
    c.same_query.ensures
    ∙ by_query x.a.now x.b.now x.u x.v (h ∙ c.if-not-same_ignoring_case.false) c.if-u-v.false
    (sym (paths-compared x.a.now x.b.now x.u x.v _ _ c.same.result c.path_at.ensures c.path_at-2.ensures c.same.ensures) ∙ c.if-not-same.false)
