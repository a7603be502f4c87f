-- `copying::copy_few` meets its contract.
use native.Mathlib.Omega.{arith}
use Rattle.copying.proofs.Runs.{four_blocks}
use Rattle.copying.proofs.copy_few.Goals as goal

pub returns : goal.returns
returns c =
    four_blocks 4 c.args.dst.now c.args.src.now c.requires.0 (omega arith) (omega arith) c.copy_block.ensures
    (omega arith) c.copy_block-2.ensures (omega arith) c.copy_block-3.ensures c.copy_block-4.ensures
