-- `etag::read_opaque` meets its contract: the opening quote is there or is not.
use native.Mathlib.Omega.{arith}
use Rattle.etag.proofs.Scan.{quote-none, quote-not, quote-is}
use Rattle.etag.proofs.read_opaque.Goals as goal

pub returns-then-at-s : goal.returns-then-at-s
returns-then-at-s c =
    let x = c.args in
    let out = quote-none x.s.now x.weak x.at c.requires in
    let not_quote = quote-not x.s.now x.weak x.at c.requires in
    grind (arith, out, not_quote)

pub read_inside-requires : goal.read_inside-requires
read_inside-requires c =
    let x = c.args in
    quote-is x.s.now x.weak x.at c.requires (omega arith) (omega arith)
