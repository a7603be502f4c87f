-- `transition::trail_step` meets its contract.
use mathlib.Core.Path.{sym, ◌∙◌}
use Prim.Native.Nat.{suc}
use native.Mathlib.Numerals.{add-one}
use native.Mathlib.Omega.{arith}
use Rattle.framing.proofs.Turns as Turns
use Rattle.transition.proofs.trail_step.Goals as goal

pub returns-then-closes : goal.returns-then-closes
returns-then-closes c = λ room.
    let e = sym c.closes.ensures ∙ c.if-closes.true in
    rw (Turns.trail_close, Turns.quiet-end)

pub returns-then-not-trail_live : goal.returns-then-not-trail_live
returns-then-not-trail_live c = λ room.
    let o = sym c.closes.ensures ∙ c.if-closes.false in
    let e = sym c.trail_live.ensures ∙ c.if-not-trail_live.true in
    rw (Turns.trail_step, ← c.trail_step-next.ensures, Turns.trail_dead)

pub returns-then-length-eq-TRAILER_LIMIT : goal.returns-then-length-eq-TRAILER_LIMIT
returns-then-length-eq-TRAILER_LIMIT c = λ room.
    let s = c.args in
    let o = sym c.closes.ensures ∙ c.if-closes.false in
    let e = sym c.trail_live.ensures ∙ c.if-not-trail_live.false in
    rw (
      Turns.trail_step,
      ← c.trail_step-next.ensures,
      Turns.trail_six room c.trail_step-next.result (suc s.length) s.total e (omega arith),
    )

pub returns-then-is_forbidden : goal.returns-then-is_forbidden
returns-then-is_forbidden c = λ room.
    let s = c.args in
    let o = sym c.closes.ensures ∙ c.if-closes.false in
    let e = sym c.trail_live.ensures ∙ c.if-not-trail_live.false in
    rw (
      Turns.trail_step,
      ← c.trail_step-next.ensures,
      Turns.trail_fifteen room c.trail_step-next.result (suc s.length) s.total e (λ n. c.if-length-eq-TRAILER_LIMIT.false (omega arith))
          (sym c.is_forbidden.ensures ∙ c.if-is_forbidden.true),
    )

pub returns : goal.returns
returns c = λ room.
    let s = c.args in
    let o = sym c.closes.ensures ∙ c.if-closes.false in
    let e = sym c.trail_live.ensures ∙ c.if-not-trail_live.false in
    rw (
      Turns.trail_step,
      ← c.trail_step-next.ensures,
      add-one,
      Turns.trail_quiet room c.trail_step-next.result (suc s.length) s.total e (λ n. c.if-length-eq-TRAILER_LIMIT.false (omega arith))
          (sym c.is_forbidden.ensures ∙ c.if-is_forbidden.false),
    )
