-- `copying::block` meets its contract: what was copied so far is the front of `src`.
use Rattle.std.proofs.Common.{◌≡◌, length}
use Rattle.copying.specs.helpers.Runs.{Front}
use Rattle.copying.proofs.block.Given as goal

abbrev pub invariant-loop-i : goal.invariant-loop-i
invariant-loop-i g l = (length l.initial.bytes ≡ l.i-end) × Front l.initial.bytes l.src l.bytes l.i
