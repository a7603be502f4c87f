-- `transition::size_step` meets its contract: the line's limit comes first, and what passes the room is told before it is added.
use Prim.Native.Nat.{suc, ◌+◌, ◌*◌, ◌<◌}
use native.Mathlib.Numerals.{add-one}
use native.Mathlib.Omega.{arith}
use Rattle.framing.proofs.Turns.{size_five, size_seven, size-quiet}
use Rattle.transition.proofs.size_step.Goals as goal
use Rattle.transition.proofs.size_step.Goals.{Joined-then-value-left, then-value-left-via-then-value-left}
use Rattle.transition.proofs.size_step.Goals.{then-value-left-via-else-value-left+then-digit-left}

-- the size with its new digit passes the room
passed : (c : Joined-then-value-left) → c.args.room < c.args.before + (c.args.value * 16 + c.args.digit)
passed c =
    elim c.then-value-left.branch [
      | then-value-left-via-then-value-left w ↦ omega arith
      | then-value-left-via-else-value-left+then-digit-left w ↦ omega arith
    ]

pub returns-then-length-eq-LINE_LIMIT : goal.returns-then-length-eq-LINE_LIMIT
returns-then-length-eq-LINE_LIMIT c =
    let s = c.args in
    rw (size_five s.room (s.value * 16 + s.digit) (suc s.length) s.before (omega arith))

pub returns-then-value-left : goal.returns-then-value-left
returns-then-value-left c =
    let s = c.args in
    rw (size_seven s.room (s.value * 16 + s.digit) (suc s.length) s.before (λ e. c.if-length-eq-LINE_LIMIT.false (omega arith)) (passed c))

pub returns : goal.returns
returns c =
    let s = c.args in
    rw (
      add-one,
      size-quiet s.room (s.value * 16 + s.digit) (suc s.length) s.before (λ e. c.if-length-eq-LINE_LIMIT.false (omega arith))
          (omega arith),
    )
