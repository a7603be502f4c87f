-- `chunked::decide` meets its contract. The loop stands before a chunk line, behind chunks with as much data as its total says.
use Rattle.std.proofs.Common.{◌-◌, length}
use Rattle.chunked.specs.helpers.Passes.{Reached}
use Rattle.chunked.proofs.decide.Given as goal

abbrev pub invariant-loop-run : goal.invariant-loop-run
invariant-loop-run l = Reached l.room l.input l.run

abbrev pub decreases-loop-run : goal.decreases-loop-run
decreases-loop-run l = length l.input - l.run.at
