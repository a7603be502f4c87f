-- `url_normal::Parsed::put` meets its contract: its parts stand one behind the other.
use native.Mathlib.Omega.{arith}
use mathlib.Core.Path.{ap, ◌∙◌}
use lib.ListN.{length}
use Rattle.text.specs.Placing.{placed, behind}
use Rattle.http_url.specs.Places.{text_at}
use Rattle.escapes.specs.Resolved.{resolved}
use Rattle.url_equal.specs.Meaning.{lower_all}
use Rattle.url_equal.specs.Places.{page_in}
use Rattle.url_normal.proofs.Writer.{lower-length, host-fits, port-fits, query-fits, normal-put}
use Rattle.url_normal.proofs.Parsed.put.Goals as goal

pub put_lower-host_end-requires : goal.put_lower-host_end-requires
put_lower-host_end-requires c =
    let s = c.put_bytes-scheme_end in
    let x = c.args in
    let h = host-fits (page_in x.self.text.now x.self.url) x.out.now c.requires s.new.out s.result s.ensures.ends s.ensures.writes in
    omega (arith, h, lower-length (text_at x.self.text.now x.self.url.host), ap length c.text_at.ensures)

pub put_port-port_end-requires : goal.put_port-port_end-requires
put_port-port_end-requires c =
    let h = c.put_lower-host_end in
    let s = c.put_bytes-scheme_end in
    let x = c.args in
    let e = c.text_at.ensures in
    port-fits (page_in x.self.text.now x.self.url) x.out.now c.requires s.new.out s.result s.ensures.ends s.ensures.writes
    h.new.out h.result (h.ensures.ends ∙ ap (λ t. behind s.new.out s.result (lower_all t)) e)
    (h.ensures.writes ∙ ap (λ t. placed s.new.out s.result (lower_all t)) e)

pub put_query-requires : goal.put_query-requires
put_query-requires c =
    let t = c.put_resolved-path_end in
    let n = c.put_port-port_end in
    let h = c.put_lower-host_end in
    let s = c.put_bytes-scheme_end in
    let x = c.args in
    let e = c.text_at.ensures in
    query-fits (page_in x.self.text.now x.self.url) x.out.now c.requires s.new.out s.result s.ensures.ends s.ensures.writes
    h.new.out h.result (h.ensures.ends ∙ ap (λ t. behind s.new.out s.result (lower_all t)) e)
    (h.ensures.writes ∙ ap (λ t. placed s.new.out s.result (lower_all t)) e)
    n.new.out n.result n.ensures.ends n.ensures.writes t.new.out t.result (t.ensures.ends ∙ ap (λ z. behind n.new.out n.result (resolved z)) c.path_at.ensures)
    (t.ensures.writes ∙ ap (λ z. placed n.new.out n.result (resolved z)) c.path_at.ensures)

pub returns : goal.returns
returns c =
    let t = c.put_resolved-path_end in
    let n = c.put_port-port_end in
    let h = c.put_lower-host_end in
    let s = c.put_bytes-scheme_end in
    let x = c.args in
    let e = c.text_at.ensures in
    let r = normal-put (page_in x.self.text.now x.self.url) x.out.now c.requires s.new.out s.result s.ensures.ends s.ensures.writes
    h.new.out h.result (h.ensures.ends ∙ ap (λ t. behind s.new.out s.result (lower_all t)) e)
    (h.ensures.writes ∙ ap (λ t. placed s.new.out s.result (lower_all t)) e)
    n.new.out n.result n.ensures.ends n.ensures.writes t.new.out t.result (t.ensures.ends ∙ ap (λ z. behind n.new.out n.result (resolved z)) c.path_at.ensures)
    (t.ensures.writes ∙ ap (λ z. placed n.new.out n.result (resolved z)) c.path_at.ensures)
    c.put_query.new.out c.put_query.result c.put_query.ensures.ends c.put_query.ensures.writes in
    record { counts = r.0; writes = r.1 }
