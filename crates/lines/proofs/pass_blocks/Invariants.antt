-- `lines::pass_blocks` meets its contract. No LF stands before `at`.
use Prim.Native.Nat.{◌*◌}
use Rattle.lines.specs.helpers.Ends.{NoneBefore}
use Rattle.lines.proofs.pass_blocks.Given as goal

abbrev pub invariant-loop-block : goal.invariant-loop-block
invariant-loop-block l = NoneBefore l.s (64 * l.block)
