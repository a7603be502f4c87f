-- `lines::pass_blocks` meets its contract. No LF stands in the blocks so far.
use mathlib.Core.Path.{◌≡◌, sym, subst, ◌∙◌}
use Prim.Native.Nat.{◌+◌, ◌*◌}
use native.Mathlib.Omega.{arith}
use Rattle.lines.specs.helpers.Ends.{NoneBefore}
use Rattle.lines.proofs.Ends.{none-behind}
use Rattle.lines.proofs.pass_blocks.Goals as goal

pub loop-block-preserved : goal.loop-block-preserved
loop-block-preserved c =
    let s = c.args.s.now in
    let at = 64 * c.loop-block.block in
    let next : at + 64 ≡ 64 * (c.loop-block.block + 1) = omega arith in
    subst (NoneBefore s) next
    (none-behind s at (at + 64) c.loop-block.invariant (omega arith) (omega arith) (sym c.is_inner.ensures ∙ c.if-not-is_inner.false))
