-- `chunked::line_feed` meets its contract.
use Rattle.std.proofs.Common.{◌≡◌, ◌+◌, ◌-◌, refl, subst, arith}
use Rattle.framing.specs.declared.State.TheVariants.{Data}
use Rattle.chunked.specs.helpers.Passes.{At}
use Rattle.chunked.proofs.Passes.{at_more, last_more, last-refused}
use Rattle.chunked.proofs.Lines.{feed_refused, feed_last, feed_data, feed_line}
use Rattle.chunked.proofs.line_feed.Goals as goal

pub returns-then-input-at : goal.returns-then-input-at
returns-then-input-at c = last_more (at_more c.requires.1 c.if-input-at.true)

pub returns-then-input-at-ne10 : goal.returns-then-input-at-ne10
returns-then-input-at-ne10 c = last-refused (feed_refused c.requires.1 (omega arith)
    c.if-input-at-ne10.true)

pub trailer-requires : goal.trailer-requires
trailer-requires c = feed_last c.requires.1 (omega arith) c.if-input-at-ne10.false c.if-size-eq0.true

pub returns : goal.returns
returns c =
    let s = c.requires in
    let x = c.args in
    let z : x.at + 1 ≡ x.line + (x.at + 1 - x.line) = omega (arith, s.0) in (
      refl,
      omega arith,
      subst (At x.room x.input.now (Data (x.size - 1) (x.total + x.size))) z (feed_data s.1 (omega arith) c.if-input-at-ne10.false (omega arith)),
      feed_line s.1 (omega arith) s.0 s.2 c.if-input-at-ne10.false,
    )
