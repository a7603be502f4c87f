-- `url_normal::Parsed::put_query` meets its contract: nothing, or the mark and the text.
use mathlib.Core.Path.{sym, ap, ◌∙◌}
use mathlib.Core.List.{[], ◌∷◌}
use Rattle.text.proofs.Placing.{puts_none, puts_two}
use Rattle.escapes.specs.Resolved.{resolved}
use Rattle.url_equal.specs.Places.{query_in}
use Rattle.url_normal.specs.Normal.{query_form}
use Rattle.url_normal.proofs.Parsed.put_query.Goals as goal

pub returns-in-None : goal.returns-in-None
returns-in-None c =
    let x = c.args in
    let r = puts_none x.out.now x.at (query_form (query_in x.self.text.now x.self.url.query)) c.requires (ap (λ p. query_form (query_in x.self.text.now p)) c.in-None.is) in
    record { ends = r.0; writes = r.1 }

pub returns-in-Some : goal.returns-in-Some
returns-in-Some c =
    let x = c.args in
    let r = puts_two x.out.now x.at (query_form (query_in x.self.text.now x.self.url.query)) c.requires (63 ∷ []) c.put_bytes-mark_end.new.out
    (resolved c.text_at.result.now) c.put_resolved.new.out c.put_bytes-mark_end.result c.put_resolved.result
    (ap (λ p. query_form (query_in x.self.text.now p)) c.in-Some.is ∙ sym (ap (λ t. 63 ∷ resolved t) c.text_at.ensures))
    c.put_bytes-mark_end.ensures.ends c.put_bytes-mark_end.ensures.writes c.put_resolved.ensures.ends c.put_resolved.ensures.writes in
    record { ends = r.0; writes = r.1 }
