-- `transition::ext_step` meets its contract.
use mathlib.Core.Path.{sym, ◌∙◌}
use Prim.Native.Nat.{suc}
use native.Mathlib.Numerals.{add-one}
use native.Mathlib.Omega.{arith}
use borrow.Author.Tests.{eq-eqb, ne_eqb}
use Rattle.framing.specs.helpers.Machine.{leave_line}
use Rattle.framing.proofs.Turns as Turns
use Rattle.transition.proofs.ext_step.Goals as goal

pub returns-then-ext_ends : goal.returns-then-ext_ends
unfolding leave_line
returns-then-ext_ends c = λ room.
    rw (eq-eqb _ _ c.if-byte-eq13.true, ← c.ext_ends.ensures, c.if-ext_ends.true, Turns.quiet_feed)

pub returns-then-byte-eq13 : goal.returns-then-byte-eq13
unfolding leave_line
returns-then-byte-eq13 c = λ room.
    rw (eq-eqb _ _ c.if-byte-eq13.true, ← c.ext_ends.ensures, c.if-ext_ends.false, Turns.no_more)

pub returns-then-not-ext_live : goal.returns-then-not-ext_live
returns-then-not-ext_live c = λ room.
    let e = sym c.ext_live.ensures ∙ c.if-not-ext_live.true in
    rw (ne_eqb _ _ c.if-byte-eq13.false, ← c.ext_step-next.ensures, Turns.ext-dead)

pub returns-then-length-eq-LINE_LIMIT : goal.returns-then-length-eq-LINE_LIMIT
returns-then-length-eq-LINE_LIMIT c = λ room.
    let s = c.args in
    let e = sym c.ext_live.ensures ∙ c.if-not-ext_live.false in
    rw (
      ne_eqb _ _ c.if-byte-eq13.false,
      ← c.ext_step-next.ensures,
      Turns.ext_five room s.value c.ext_step-next.result (suc s.length) s.before e (omega arith),
    )

pub returns : goal.returns
returns c = λ room.
    let s = c.args in
    let e = sym c.ext_live.ensures ∙ c.if-not-ext_live.false in
    rw (
      ne_eqb _ _ c.if-byte-eq13.false,
      ← c.ext_step-next.ensures,
      add-one,
      Turns.ext-quiet room s.value c.ext_step-next.result (suc s.length) s.before e (λ n. c.if-length-eq-LINE_LIMIT.false (omega arith)),
    )
