-- `chunked::digit_value` meets its contract.
use Rattle.std.proofs.Common.{arith}
use Rattle.chunked.proofs.Digits.{by_halves}
use Rattle.chunked.proofs.digit_value.Goals as goal

pub returns : goal.returns
returns c = (omega (arith, c.ranges.b), by_halves c.args.b (omega (arith, c.ranges.b)), λ h. omega arith)
