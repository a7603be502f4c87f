-- `chunked::trailer` meets its contract. The loop stands in the trailer, at the position `pos`.
use Rattle.std.proofs.Common.{◌-◌, ◌≤◌}
use Rattle.framing.specs.declared.State.TheVariants.{Trail}
use Rattle.chunked.specs.helpers.Passes.{At}
use Rattle.chunked.proofs.trailer.Given as goal

abbrev pub invariant-loop-at : goal.invariant-loop-at
invariant-loop-at l = (l.start ≤ l.at) × At l.room l.input (Trail l.pos (l.at - l.start) l.total) l.at
