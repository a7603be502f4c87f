-- `text::put_numeral` meets its contract. By where the number fits.
use native.Mathlib.Omega.{arith}
use Rattle.numerals.specs.Numeral.{numeral, radix}
use Rattle.text.proofs.Placing.{puts_nothing, number_short, number_fits}
use Rattle.text.proofs.put_numeral.Goals as goal

pub returns-then-at-out : goal.returns-then-at-out
returns-then-at-out c =
    let x = c.args in
    let r = puts_nothing x.out.now x.at (numeral (radix x.base) x.n) (omega arith) in
    record { ends = r.0; writes = r.1 }

pub returns-then-width-out : goal.returns-then-width-out
returns-then-width-out c =
    let p = c.put-width in
    let x = c.args in
    let r = number_short x.out.now p.new.out x.at p.result (numeral (radix x.base) x.n) (omega arith) p.ensures.counts p.ensures.writes
    (omega arith) in
    record { ends = r.0; writes = r.1 }

pub returns : goal.returns
returns c =
    let p = c.put-width in
    let x = c.args in
    let r = number_fits x.out.now p.new.out x.at p.result (numeral (radix x.base) x.n) (omega arith) p.ensures.counts p.ensures.writes
    (omega arith) in
    record { ends = r.0; writes = r.1 }
