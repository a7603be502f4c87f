-- `ranges::seventeenth` meets its contract: what could begin an element is refused as one too many.
use Rattle.std.proofs.Common.{arith}
use Rattle.ranges.proofs.Scan.{element_missing, element-not, seventeenth-number, seventeenth-suffix}
use Rattle.ranges.proofs.seventeenth.Goals as goal

pub returns-then-is_digit : goal.returns-then-is_digit
returns-then-is_digit c n xs full x =
    let z = c.args in
    let number = seventeenth-number n z.s.now x full in
    let suffix = seventeenth-suffix n z.s.now x full in
    grind (arith, number, suffix)

pub returns : goal.returns
returns c n xs full x =
    let z = c.args in
    let out = element_missing n z.s.now x in
    let other = element-not n z.s.now x in
    grind (arith, out, other)
