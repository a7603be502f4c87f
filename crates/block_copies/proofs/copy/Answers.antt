-- `block_copies::copy` meets its contract.
use mathlib.Core.Path.{sym, ◌∙◌}
use Rattle.copying.proofs.Runs.{put_all}
use Rattle.block_copies.proofs.copy.Goals as goal

pub returns-then-len : goal.returns-then-len
returns-then-len c =
    c.copy_short.ensures ∙ sym (put_all c.args.dst.now c.args.src.now (sym c.if-len-dst.true))
