-- `chunked::is_leading` meets its contract.
use Rattle.std.proofs.Common.{arith}
use Rattle.chunked.proofs.Digits.{leading}
use Rattle.chunked.proofs.is_leading.Goals as goal

pub returns-then-bit-lt64 : goal.returns-then-bit-lt64
returns-then-bit-lt64 c = leading c.args.b _ (omega arith) (omega (arith, c.ranges.b)) (omega (arith, c.ranges.b))
