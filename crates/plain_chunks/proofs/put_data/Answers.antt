-- `plain_chunks::put_data` meets its contract.
use mathlib.Core.Path.{refl}
use Prim.Native.Nat.{◌+◌}
use lib.ListN.{length}
use Rattle.text.proofs.Placing.{puts_part}
use Rattle.plain_chunks.proofs.put_data.Goals as goal

pub returns : goal.returns
returns c =
    let p = c.copy in
    (puts_part c.args.out.now c.args.at c.args.src.now p.new.dst (c.args.at + length c.args.src.now) c.requires refl
    p.ensures).1
