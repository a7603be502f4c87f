-- `numerals::put_numeral` meets its contract. By where the digits fit.
use mathlib.Core.Path.{sym}
use native.Mathlib.Omega.{arith}
use Rattle.numerals.specs.Numeral.{numeral}
use Rattle.numerals.proofs.Digits.{put-part, put-short}
use Rattle.numerals.proofs.put_numeral.Goals as goal

pub returns-then-count-out : goal.returns-then-count-out
returns-then-count-out c =
    let p = c.put_digits in
    let w = c.digit_count-count in
    let x = c.args in
    record { counts = w.ensures; writes = put-part x.radix x.n w.result x.out.now _ w.ensures c.if-count-out.true p.ensures }

pub returns-else-count-out : goal.returns-else-count-out
returns-else-count-out c =
    let w = c.digit_count-count in
    let x = c.args in
    record { counts = w.ensures; writes = sym (put-short (numeral x.radix x.n) x.out.now (omega (arith, c.if-count-out.false, w.ensures))) }
