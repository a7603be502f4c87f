-- `block_copies::copy_short` meets its contract.
use native.Mathlib.Omega.{arith}
use mathlib.Core.Path.{◌∙◌}
use Rattle.copying.proofs.Runs.{four_blocks, replaced}
use Rattle.block_copies.proofs.copy_short.Goals as goal

pub returns : goal.returns
returns c =
    let s = c.requires in
    four_blocks 16 c.args.dst.now c.args.src.now (omega (arith, s.0)) s.1 s.2 c.copy_block.ensures
    (omega arith) c.copy_block-2.ensures (omega arith) c.copy_block-3.ensures c.copy_block-4.ensures
    ∙ replaced c.args.dst.now c.args.src.now s.0
