-- `media::read_subtype` meets its contract: each way out is what the grammar leaves there.
use native.Mathlib.Omega.{arith}
use mathlib.Core.Path.{sym, ap, ◌∙◌}
use Rattle.grammar.specs.Reading.{refused}
use Rattle.octets.specs.Bytes.{token?}
use Rattle.octets.proofs.Tables.{token-bits}
use Rattle.media.proofs.Scan.{type-cut_off, slash_not, subtype-none, subtype-found}
use Rattle.media.proofs.read_subtype.Goals as goal
use Rattle.media.proofs.read_subtype.Goals.{then-slash-s-via-then-slash-s, then-slash-s-via-else-slash-s+then-s-slash-ne47}

pub returns-then-slash-s : goal.returns-then-slash-s
returns-then-slash-s c =
    let t = c.requires in
    elim c.then-slash-s.branch [
      | then-slash-s-via-then-slash-s h ↦ type-cut_off c.args.s.now t.short c.args.slash t.ends t.some h.if-slash-s.true
      | then-slash-s-via-else-slash-s+then-s-slash-ne47 h ↦ slash_not c.args.s.now t.short c.args.slash t.ends t.some h.if-slash-s.false h.if-s-slash-ne47.true
    ]

pub returns-then-end-start : goal.returns-then-end-start
returns-then-end-start c =
    let t = c.requires in
    let e = c.if-end-start.true in
    subtype-none c.args.s.now t.short c.args.slash t.ends t.some c.if-slash-s.false
    c.if-s-slash-ne47.false (sym (c.class_end-end.ensures token? token-bits) ∙ e)
    ∙ ap (refused 1) (sym e)

pub overflow_sub-result : goal.overflow_sub-result
overflow_sub-result c = omega (arith, c.class_end-end.ensures token? token-bits)

pub returns : goal.returns
returns c =
    let t = c.requires in
    let f = c.class_end-end in
    subtype-found c.args.s.now t.short c.args.slash t.ends t.some c.if-slash-s.false
    c.if-s-slash-ne47.false f.result (f.ensures token? token-bits) c.if-end-start.false
