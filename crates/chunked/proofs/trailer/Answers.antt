-- `chunked::trailer` meets its contract. The loop stands in the trailer, at the position `pos`.
use Rattle.std.proofs.Common.{◌≡◌, true, sym, ◌∙◌, arith}
use Rattle.framing.specs.helpers.Machine.{trailer}
use Rattle.chunked.proofs.Passes.{at_more, last_more, last-refused}
use Rattle.chunked.proofs.Lines.{Into, trail_start, trail_closed, trail_into, trail_wrong, trail_long}
use Rattle.chunked.proofs.Lines.{trail_forbidden, trail_on}
use Rattle.chunked.proofs.trailer.Goals as goal
use Rattle.chunked.proofs.trailer.Goals.{After-trail_step-pos, Else-not-trail_live}

-- ## What the ways out behind the step know
into : (c : After-trail_step-pos)
    → let x = c.args in
    Into x.room x.input.now c.trail_step-pos.result x.start x.total c.loop-at.at
into c =
    trail_into _ c.loop-at.invariant.0 c.loop-at.invariant.1 c.loop-at-test.true
    (sym c.closes.ensures ∙ c.if-closes.false) c.trail_step-pos.ensures

alive : (c : Else-not-trail_live) → trailer.alive c.trail_step-pos.result ≡ true
alive c = sym c.trail_live.ensures ∙ c.if-not-trail_live.false

pub loop-at-init : goal.loop-at-init
loop-at-init c = (omega arith, trail_start c.requires)

pub close-requires : goal.close-requires
close-requires c = (
  c.loop-at.invariant.0,
  trail_closed c.loop-at.invariant.1 c.loop-at-test.true (sym c.closes.ensures ∙ c.if-closes.true),
)

pub returns-then-not-trail_live : goal.returns-then-not-trail_live
returns-then-not-trail_live c =
    let p = (goal.at.returns-then-not-trail_live c).After-trail_step-pos in
    last-refused (trail_wrong (into p) (sym c.trail_live.ensures ∙ c.if-not-trail_live.true))

pub returns-then-at-start-eq-TRAILER_LIMIT : goal.returns-then-at-start-eq-TRAILER_LIMIT
returns-then-at-start-eq-TRAILER_LIMIT c =
    let p = (goal.at.returns-then-at-start-eq-TRAILER_LIMIT c).After-trail_step-pos in
    let q = (goal.at.returns-then-at-start-eq-TRAILER_LIMIT c).Else-not-trail_live in
    last-refused (trail_long (into p) (alive q) c.if-at-start-eq-TRAILER_LIMIT.true)

pub returns-then-is_forbidden : goal.returns-then-is_forbidden
returns-then-is_forbidden c =
    let p = (goal.at.returns-then-is_forbidden c).After-trail_step-pos in
    let q = (goal.at.returns-then-is_forbidden c).Else-not-trail_live in
    last-refused
    (trail_forbidden (into p) (alive q) c.if-at-start-eq-TRAILER_LIMIT.false (sym c.is_forbidden.ensures ∙ c.if-is_forbidden.true))

pub loop-at-preserved : goal.loop-at-preserved
loop-at-preserved c =
    let p = (goal.at.loop-at-preserved c).After-trail_step-pos in
    let q = (goal.at.loop-at-preserved c).Else-not-trail_live in (
      omega arith,
      trail_on (into p) (alive q) c.if-at-start-eq-TRAILER_LIMIT.false (sym c.is_forbidden.ensures ∙ c.if-is_forbidden.false),
    )

pub returns : goal.returns
returns c = last_more (at_more c.loop-at.invariant.1 c.loop-at-test.false)
