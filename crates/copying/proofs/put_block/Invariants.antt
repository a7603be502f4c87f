-- `copying::put_block` meets its contract: what was put so far is the front of the block.
use Rattle.std.proofs.Common.{◌≡◌, length}
use Rattle.copying.specs.helpers.Runs.{Front}
use Rattle.copying.proofs.put_block.Given as goal

abbrev pub invariant-loop-i : goal.invariant-loop-i
invariant-loop-i g l = (length l.bytes ≡ l.i-end) × Front l.initial.dst l.bytes l.dst l.i
