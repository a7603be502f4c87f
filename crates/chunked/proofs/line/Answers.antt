-- `chunked::line` meets its contract. The loop stands behind digits with that value; the digits end before another byte.
use Rattle.std.proofs.Common.{◌<◌, get_or, arith}
use Rattle.chunked.proofs.Passes.{at_more, first_fits, last_more, last-refused}
use Rattle.chunked.proofs.Lines.{size-start, size-first, size-read, size-long, size-past, size-on}
use Rattle.chunked.proofs.line.Goals as goal
use Rattle.chunked.proofs.line.Goals.{After-hex_value-digit, then-value-left-via-then-value-left}
use Rattle.chunked.proofs.line.Goals.{then-value-left-via-else-value-left+then-digit-left}

byte : (c : After-hex_value-digit) → get_or c.args.input.now c.loop-at.at 0 < 256
byte c = omega (arith, c.type_inv.input c.loop-at.at)

pub overflow_sub-left : goal.overflow_sub-left
overflow_sub-left c = first_fits c.requires

pub loop-at-init : goal.loop-at-init
loop-at-init c = size-start c.requires

pub returns-then-at-start : goal.returns-then-at-start
returns-then-at-start c =
    let p = (goal.at.returns-then-at-start c).After-hex_value-digit in
    last-refused
    (size-first c.loop-at.invariant c.loop-at-test.true c.hex_value-digit.ensures (byte p) c.if-digit-gt15.true
    c.if-at-start.true)

pub extensions-requires : goal.extensions-requires
extensions-requires c =
    let p = (goal.at.extensions-requires c).After-hex_value-digit in
    size-read c.loop-at.invariant c.loop-at-test.true c.hex_value-digit.ensures (byte p) c.if-digit-gt15.true c.if-at-start.false

pub returns-then-at-start-eq-LINE_LIMIT : goal.returns-then-at-start-eq-LINE_LIMIT
returns-then-at-start-eq-LINE_LIMIT c =
    last-refused
    (size-long c.loop-at.invariant c.loop-at-test.true c.hex_value-digit.ensures c.if-digit-gt15.false c.if-at-start-eq-LINE_LIMIT.true)

pub loop-at-preserved : goal.loop-at-preserved
loop-at-preserved c =
    size-on c.loop-at.invariant c.loop-at-test.true c.hex_value-digit.ensures c.if-digit-gt15.false c.if-at-start-eq-LINE_LIMIT.false
    (omega (arith, c.loop-at.invariant.fits))

pub returns : goal.returns
returns c = last_more (at_more c.loop-at.invariant.at c.loop-at-test.false)

pub returns-then-value-left : goal.returns-then-value-left
returns-then-value-left c =
    let fits = c.loop-at.invariant.fits in
    let past = size-past c.loop-at.invariant c.loop-at-test.true c.hex_value-digit.ensures c.if-digit-gt15.false c.if-at-start-eq-LINE_LIMIT.false in
    elim c.then-value-left.branch [
      | then-value-left-via-then-value-left w ↦ last-refused (past (omega (arith, fits, w.if-value-left.true)))
      | then-value-left-via-else-value-left+then-digit-left w ↦ last-refused (past (omega (arith, fits, w.if-digit-left.true)))
    ]
