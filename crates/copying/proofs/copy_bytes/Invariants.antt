-- `copying::copy_bytes` meets its contract. The first i bytes are copied.
use Rattle.copying.specs.helpers.Runs.{Front}
use Rattle.copying.proofs.copy_bytes.Given as goal

abbrev pub invariant-loop-i : goal.invariant-loop-i
invariant-loop-i l = Front l.initial.dst l.src l.dst l.i
