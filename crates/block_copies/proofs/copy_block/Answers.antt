-- `block_copies::copy_block` meets its contract.
use Rattle.block_copies.proofs.Blocks.{block_put}
use Rattle.block_copies.proofs.copy_block.Goals as goal

pub returns : goal.returns
returns c =
    let p = c.copy in
    block_put c.args.src.now c.args.dst.now p.new.dst c.args.at c.requires.1 c.requires.0 p.ensures
