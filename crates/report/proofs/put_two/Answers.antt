-- `report::put_two` meets its contract. Five parts, one behind the other, where all of them fit.
use Prim.Native.Nat.{◌+◌, ◌<◌, ◌≤◌}
use native.Mathlib.Omega.{arith}
use lib.ListN.{length}
use Rattle.text.proofs.Placing.{puts_nothing}
use Rattle.report.specs.Saying.{numbers}
use Rattle.report.proofs.Says.{number_fits, numbers-length, two-put}
use Rattle.report.proofs.put_two.Goals as goal
use Rattle.report.proofs.put_two.Goals.{After-width-second_width, then-at-out-via-then-at-out, then-at-out-via-else-at-out+then-len-out}

-- each number has at most 64 digits
short : (c : After-width-second_width) → (c.width-first_width.result ≤ 64) × (c.width-second_width.result ≤ 64)
short c = (
  omega (arith, number_fits c.args.first c.ranges.first.fits, c.width-first_width.ensures),
  omega (arith, number_fits c.args.second c.ranges.second.fits, c.width-second_width.ensures),
)

pub overflow_add-len : goal.overflow_add-len
overflow_add-len c = record { fits = omega (arith, c.well_formed, short ((goal.at.overflow_add-len c).After-width-second_width)) }

pub overflow_add-len-2 : goal.overflow_add-len-2
overflow_add-len-2 c = record { fits = omega (arith, c.well_formed, short ((goal.at.overflow_add-len-2 c).After-width-second_width)) }

pub overflow_add-len-3 : goal.overflow_add-len-3
overflow_add-len-3 c = record { fits = omega (arith, c.well_formed, short ((goal.at.overflow_add-len-3 c).After-width-second_width)) }

pub returns-then-at-out : goal.returns-then-at-out
returns-then-at-out c =
    let x = c.args in
    let n = numbers-length x.begin.now x.first x.second in
    let none : length x.out.now < x.at + length (numbers x.begin.now x.first x.second) = elim c.then-at-out.branch [
      | then-at-out-via-then-at-out w ↦ omega (arith, w.if-at-out.true)
      | then-at-out-via-else-at-out+then-len-out w
          ↦ omega (arith, w.if-at-out.false, w.if-len-out.true, n, c.width-first_width.ensures, c.width-second_width.ensures)
    ] in
    let r = puts_nothing x.out.now x.at (numbers x.begin.now x.first x.second) none in
    record { ends = r.0; says = r.1 }

pub returns : goal.returns
returns c =
    let e₁ = c.put_bytes-begin_end in
    let e₂ = c.put_numeral-first_end in
    let e₃ = c.put_bytes-blank_end in
    let e₄ = c.put_numeral-second_end in
    let e₅ = c.put_bytes in
    let x = c.args in
    let r = two-put x.out.now x.at x.begin.now x.first x.second
    e₁.new.out e₂.new.out e₃.new.out e₄.new.out e₅.new.out e₁.result e₂.result e₃.result e₄.result e₅.result
    (omega (
      arith,
      c.if-len-out.false,
      c.if-at-out.false,
      numbers-length x.begin.now x.first x.second,
      c.width-first_width.ensures,
      c.width-second_width.ensures,
    ))
    (e₁.ensures.ends, e₁.ensures.writes) (e₂.ensures.ends, e₂.ensures.writes) (e₃.ensures.ends, e₃.ensures.writes)
    (e₄.ensures.ends, e₄.ensures.writes) (e₅.ensures.ends, e₅.ensures.writes) in
    record { ends = r.0; says = r.1 }
