-- `numerals::digit_count` meets its contract. The digits counted, and those of what is left, are all.
use Prim.Native.Nat.{◌/◌}
use native.Mathlib.Omega.{arith}
use Rattle.numerals.proofs.Digits.{smaller, width_small, width_large, width_some, width_bound, numeral-length}
use Rattle.numerals.proofs.digit_count.Goals as goal

pub overflow_add-count : goal.overflow_add-count
overflow_add-count c =
    let x = c.args in
    let l = c.loop-rest in
    let large = width_large x.radix l.rest c.requires c.loop-rest-test.true in
    omega (arith, l.invariant.1, width_some x.radix (l.rest / x.radix) c.requires, width_bound 63 x.radix x.n c.requires (omega arith))

pub loop-rest-preserved : goal.loop-rest-preserved
loop-rest-preserved c =
    let b = c.args.radix in
    let l = c.loop-rest in
    let less = smaller b l.rest c.requires c.loop-rest-test.true in
    (omega arith, omega (arith, l.invariant.1, width_large b l.rest c.requires c.loop-rest-test.true))

pub returns : goal.returns
returns c =
    let x = c.args in
    let l = c.loop-rest in
    omega (arith, l.invariant.1, numeral-length x.radix x.n, width_small x.radix l.rest c.loop-rest-test.false)
