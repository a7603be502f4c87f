-- `url_normal::Parsed::len` meets its contract: the lengths of the parts, each of them small.
use native.Mathlib.Omega.{arith}
use mathlib.Core.Path.{ap}
use lib.ListN.{length}
use Rattle.http_url.specs.Places.{text_at}
use Rattle.escapes.specs.Resolved.{resolved}
use Rattle.url_equal.specs.Places.{page_in}
use Rattle.url_normal.proofs.Writer.{lower-length, text-short, path-short, query-short, normal-length}
use Rattle.url_normal.proofs.Parsed.len.Goals as goal

pub overflow_add-result-2 : goal.overflow_add-result-2
overflow_add-result-2 c =
    omega (
      arith,
      ap length c.text_at.ensures,
      text-short c.args.self.text.now c.args.self.url.host,
      c.port_len.ensures.small,
    )

pub overflow_add-result-3 : goal.overflow_add-result-3
overflow_add-result-3 c =
    omega (
      arith,
      ap length c.text_at.ensures,
      text-short c.args.self.text.now c.args.self.url.host,
      c.port_len.ensures.small,
      c.resolved_len.ensures,
      ap (λ t. length (resolved t)) c.path_at.ensures,
      path-short c.args.self.text.now c.args.self.url.path,
    )

pub overflow_add-result-4 : goal.overflow_add-result-4
overflow_add-result-4 c =
    omega (
      arith,
      ap length c.text_at.ensures,
      text-short c.args.self.text.now c.args.self.url.host,
      c.port_len.ensures.small,
      c.resolved_len.ensures,
      ap (λ t. length (resolved t)) c.path_at.ensures,
      path-short c.args.self.text.now c.args.self.url.path,
      c.query_len.ensures,
      query-short c.args.self.text.now c.args.self.url.query,
    )

pub returns : goal.returns
returns c =
    omega (
      arith,
      ap length c.text_at.ensures,
      lower-length (text_at c.args.self.text.now c.args.self.url.host),
      c.port_len.ensures.is,
      c.resolved_len.ensures,
      ap (λ t. length (resolved t)) c.path_at.ensures,
      c.query_len.ensures,
      normal-length (page_in c.args.self.text.now c.args.self.url),
    )
