-- `media::read_quoted` meets its contract: the text and pairs end at the closing quote, or the value is refused there.
use native.Mathlib.Omega.{arith}
use mathlib.Core.Path.{sym, ap, ◌∙◌}
use Rattle.grammar.specs.Reading.{refused}
use Rattle.media.proofs.Scan.{quote-cut_off, quote-not, quote-read}
use Rattle.media.proofs.read_quoted.Goals as goal
use Rattle.media.proofs.read_quoted.Goals.{then-end-s-via-then-end-s, then-end-s-via-else-end-s+then-s-end-ne34}

pub returns-then-end-s : goal.returns-then-end-s
returns-then-end-s c = λ m ps x.
    let e = c.quoted_end-end in
    elim c.then-end-s.branch [
      | then-end-s-via-then-end-s h ↦ quote-cut_off x c.requires.quote_at.at c.requires.quote_at.quote (omega (arith, e.ensures, h.if-end-s.true)) ∙ ap (refused 1) (sym e.ensures)
      | then-end-s-via-else-end-s+then-s-end-ne34 h ↦ quote-not x c.requires.quote_at.at c.requires.quote_at.quote (rw (sym e.ensures) h.if-s-end-ne34.true) ∙ ap (refused 1) (sym e.ensures)
    ]

pub returns : goal.returns
returns c = λ m ps x.
    let e = c.quoted_end-end in
    quote-read x c.requires.quote_at.at c.requires.quote_at.quote e.result e.ensures c.if-end-s.false
    c.if-s-end-ne34.false
