-- `url_normal::Parsed::query_len` meets its contract: by the cases of the query.
use native.Mathlib.Omega.{arith}
use mathlib.Core.Path.{ap, ◌∙◌}
use lib.ListN.{length}
use Rattle.escapes.specs.Resolved.{resolved}
use Rattle.url_equal.specs.Places.{query_in}
use Rattle.url_normal.specs.Normal.{query_form}
use Rattle.url_normal.proofs.Writer.{query-short}
use Rattle.url_normal.proofs.Parsed.query_len.Goals as goal

pub returns-in-Some : goal.returns-in-Some
returns-in-Some c =
    let x = c.args in
    let e = c.resolved_len.ensures ∙ ap (λ t. length (resolved t)) c.text_at.ensures in
    omega (arith, e, ap (λ p. length (query_form (query_in x.self.text.now p))) c.in-Some.is)

pub overflow_add-result : goal.overflow_add-result
overflow_add-result c =
    let x = c.args in
    let e = c.resolved_len.ensures ∙ ap (λ t. length (resolved t)) c.text_at.ensures in
    omega (arith, e, ap (λ p. length (query_form (query_in x.self.text.now p))) c.in-Some.is, query-short x.self.text.now x.self.url.query)
