-- `chunked::extensions` meets its contract. The loop stands behind the digits, at the position `pos`.
use Rattle.std.proofs.Common.{◌≡◌, get_or, sym, ap, ◌∙◌, arith}
use Rattle.framing.specs.helpers.Machine.{extensions}
use Rattle.chunked.proofs.Passes.{at_more, last_more, last-refused}
use Rattle.chunked.proofs.Lines.{ext-start, ext-ended, ext-line, ext-unended, ext_wrong, ext-long, ext-on}
use Rattle.chunked.proofs.extensions.Goals as goal
use Rattle.chunked.proofs.extensions.Goals.{After-ext_live}

-- is the position behind the byte live
alive : (c : After-ext_live)
    → extensions.alive (extensions.next c.loop-at.pos (get_or c.args.input.now c.loop-at.at 0)) ≡ c.ext_live.result
alive c = sym (ap extensions.alive c.ext_step-pos.ensures) ∙ sym c.ext_live.ensures

pub loop-at-init : goal.loop-at-init
loop-at-init c = ext-start c.requires

pub line_feed-requires : goal.line_feed-requires
line_feed-requires c =
    let h = c.loop-at.invariant in
    let ends = sym c.ext_ends.ensures ∙ c.if-ext_ends.true in (
      omega (arith, h.starts),
      ext-ended h c.loop-at-test.true c.if-byte-eq13.true ends,
      ext-line h c.loop-at-test.true c.if-byte-eq13.true ends,
    )

pub returns-then-byte-eq13 : goal.returns-then-byte-eq13
returns-then-byte-eq13 c =
    last-refused
    (ext-unended c.loop-at.invariant c.loop-at-test.true c.if-byte-eq13.true
    (sym c.ext_ends.ensures ∙ c.if-ext_ends.false))

pub returns-then-not-ext_live : goal.returns-then-not-ext_live
returns-then-not-ext_live c =
    let p = (goal.at.returns-then-not-ext_live c).After-ext_live in
    last-refused
    (ext_wrong c.loop-at.invariant c.loop-at-test.true c.if-byte-eq13.false (alive p ∙ c.if-not-ext_live.true))

pub overflow_sub-at : goal.overflow_sub-at
overflow_sub-at c = omega (arith, c.loop-at.invariant.starts)

pub returns-then-at-line-eq-LINE_LIMIT : goal.returns-then-at-line-eq-LINE_LIMIT
returns-then-at-line-eq-LINE_LIMIT c =
    last-refused
    (ext-long c.loop-at.invariant c.loop-at-test.true c.if-byte-eq13.false
    (alive ((goal.at.returns-then-at-line-eq-LINE_LIMIT c).After-ext_live) ∙ c.if-not-ext_live.false)
    c.if-at-line-eq-LINE_LIMIT.true)

pub loop-at-preserved : goal.loop-at-preserved
loop-at-preserved c =
    let p = (goal.at.loop-at-preserved c).After-ext_live in
    rw c.ext_step-pos.ensures
    (ext-on c.loop-at.invariant c.loop-at-test.true c.if-byte-eq13.false (alive p ∙ c.if-not-ext_live.false)
    c.if-at-line-eq-LINE_LIMIT.false)

pub returns : goal.returns
returns c = last_more (at_more c.loop-at.invariant.at c.loop-at-test.false)
