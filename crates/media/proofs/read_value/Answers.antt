-- `media::read_value` meets its contract: a quoted string, or a token.
use native.Mathlib.Omega.{arith}
use mathlib.Core.Path.{sym, ◌∙◌}
use Rattle.octets.specs.Bytes.{token?}
use Rattle.octets.proofs.Tables.{token-bits}
use Rattle.media.proofs.Scan.{value-cut_off, token-none, token-read}
use Rattle.media.proofs.read_value.Goals as goal

pub returns-then-from-s : goal.returns-then-from-s
returns-then-from-s c = λ m ps x. value-cut_off x c.if-from-s.true

pub returns-then-end-from : goal.returns-then-end-from
returns-then-end-from c = λ m ps x.
    let e = c.class_end-end.ensures token? token-bits in
    token-none x c.if-from-s.false c.if-s-from-eq34.false
    (sym e ∙ c.if-end-from.true)

pub overflow_sub-parameter-2 : goal.overflow_sub-parameter-2
overflow_sub-parameter-2 c = omega (arith, c.class_end-end.ensures token? token-bits)

pub returns : goal.returns
returns c = λ m ps x.
    let e = c.class_end-end in
    token-read x c.if-from-s.false c.if-s-from-eq34.false
    e.result (e.ensures token? token-bits) c.if-end-from.false
