-- `size_lines::ended_line` meets its contract.
use native.Mathlib.Omega.{arith}
use Rattle.size_lines.proofs.PlainLines.{digits-end}
use Rattle.size_lines.proofs.ended_line.Goals as goal

pub returns : goal.returns
returns c = digits-end c.requires (omega arith) (omega arith) (omega arith) (omega arith)
