-- `lines::line_end` meets its contract. No LF stands before `i`.
use native.Mathlib.Omega.{arith}
use Rattle.lines.proofs.Ends.{ends_later}
use Rattle.lines.proofs.line_end.Goals as goal

pub loop-i-preserved : goal.loop-i-preserved
loop-i-preserved c = (omega arith, grind (arith, ends_later))
