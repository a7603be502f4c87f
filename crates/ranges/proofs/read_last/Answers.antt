-- `ranges::read_last` meets its contract: each way out is what the grammar leaves behind the first position.
use native.Mathlib.Omega.{arith}
use Rattle.ranges.proofs.Scan.{minus_missing, minus_not, open_read, backward-refused, closed-read}
use Rattle.ranges.proofs.read_last.Goals as goal

pub returns-then-minus-s : goal.returns-then-minus-s
returns-then-minus-s c n xs room x =
    let a = c.args in
    let out = minus_missing n a.s.now x room a.first a.minus c.requires in
    let other = minus_not n a.s.now x room a.first a.minus c.requires in
    grind (arith, out, other)

pub returns-in-None : goal.returns-in-None
returns-in-None c n xs room x =
    let a = c.args in
    open_read n a.s.now x room a.first a.minus c.requires (omega arith) (omega arith) c.in-None.ensures

pub returns-in-Some : goal.returns-in-Some
returns-in-Some c n xs room x =
    let a = c.args in
    backward-refused n a.s.now x room a.first a.minus c.requires (omega arith) (omega arith) _ _ c.in-Some.ensures c.if-value-first.true

pub returns-in-Some-2 : goal.returns-in-Some-2
returns-in-Some-2 c n xs room x =
    let a = c.args in
    closed-read n a.s.now x room a.first a.minus c.requires (omega arith) (omega arith) _ _ c.in-Some.ensures c.if-value-first.false
