-- `etag::read` meets its contract: the mark is there, is not, or breaks off.
use native.Mathlib.Omega.{arith}
use mathlib.Core.Path.{sym, ap, ◌∙◌}
use Rattle.grammar.specs.Reading.{refused}
use Rattle.etag.proofs.Scan.{mark-cut, mark-read}
use Rattle.etag.proofs.read.Goals as goal

pub returns-then-agreed-eq1 : goal.returns-then-agreed-eq1
returns-then-agreed-eq1 c =
    let w = c.mark_len-agreed in
    let s = c.args.s.now in
    sym (mark-cut s c.in_ok-check_length.ensures (λ e. omega (arith, w.ensures, c.if-agreed-eq1.true))
    (omega (arith, w.ensures, c.if-agreed-eq1.true)) ∙ ap (refused 1) (sym w.ensures))

pub read_opaque-requires : goal.read_opaque-requires
read_opaque-requires c =
    let w = c.mark_len-agreed in
    mark-read c.args.s.now c.in_ok-check_length.ensures w.result w.ensures
    c.if-agreed-eq1.false
