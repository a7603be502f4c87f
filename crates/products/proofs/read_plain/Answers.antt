-- `products::read_plain` meets its contract: a byte of text, or a pair.
use native.Mathlib.Omega.{arith}
use mathlib.Core.Path.{sym, ◌∙◌}
use Rattle.products.proofs.Comments.{is-text, is-other, is-pair, is_no_pair, is-half-pair}
use Rattle.products.proofs.read_plain.Goals as goal
use Rattle.products.proofs.read_plain.Goals.{then-s-at-via-then-s-at, then-s-at-via-else-s-at+then-not-is_escaped}

pub returns-then-is_comment_text : goal.returns-then-is_comment_text
returns-then-is_comment_text c =
    let s = c.args.s.now in
    let i = c.args.at in
    let t = sym c.is_comment_text.ensures ∙ c.if-is_comment_text.true in
    record { forward = omega arith; inside = omega (arith, c.requires.at); reads = λ n a p. is-text s n a p i c.requires.at t }

pub returns-then-s-at-ne92 : goal.returns-then-s-at-ne92
returns-then-s-at-ne92 c a n p =
    let s = c.args.s.now in
    let i = c.args.at in
    let t = sym c.is_comment_text.ensures ∙ c.if-is_comment_text.false in
    is-other s n a p i c.requires t c.if-s-at-ne92.true

pub returns-then-s-at : goal.returns-then-s-at
returns-then-s-at c a n p =
    elim c.then-s-at.branch [
      | then-s-at-via-then-s-at w ↦ is-half-pair c.args.s.now n a p c.args.at c.requires.at c.if-s-at-ne92.false w.if-s-at.true
      | then-s-at-via-else-s-at+then-not-is_escaped w ↦
          is_no_pair c.args.s.now n a p c.args.at c.requires.at c.if-s-at-ne92.false w.if-s-at.false
          (sym w.is_escaped.ensures ∙ w.if-not-is_escaped.true)
    ]

pub returns : goal.returns
returns c =
    let b = c.if-s-at.false in
    record {
      forward = omega arith;
      inside = omega (arith, b);
      reads = λ n a p.
          is-pair c.args.s.now n a p c.args.at c.requires.at c.if-s-at-ne92.false b (sym c.is_escaped.ensures ∙ c.if-not-is_escaped.false);
    }
