-- `copying::copy_rest` meets its contract. The first `at` bytes are copied, and a byte is left for the last block.
use Rattle.copying.proofs.Runs.{front_length, front_block, front-last}
use mathlib.Core.Path.{◌∙◌}
use lib.ListN.{length}
use Prim.Native.Nat.{◌-◌}
use native.Mathlib.Omega.{arith}
use Rattle.copying.proofs.copy_rest.Goals as goal

pub loop-at-init : goal.loop-at-init
loop-at-init c =
    let p = c.requires.src_in_bounds in
    (p.0, p.1, p.2, c.requires.front)

pub copy_block-requires : goal.copy_block-requires
copy_block-requires c =
    let i = c.loop-at.invariant in
    (omega (arith, i.0, front_length i.0 i.3), omega arith)

pub loop-at-preserved : goal.loop-at-preserved
loop-at-preserved c =
    let i = c.loop-at.invariant in
    let b = c.copy_block in
    (i.0, omega arith, omega arith, front_block 16 i.3 (omega (arith, c.loop-at-test.true)) b.ensures)

pub overflow_sub-len-2 : goal.overflow_sub-len-2
overflow_sub-len-2 c = c.loop-at.invariant.1

pub copy_block-requires-2 : goal.copy_block-requires-2
copy_block-requires-2 c =
    let i = c.loop-at.invariant in
    (omega (arith, i.0, front_length i.0 i.3), omega arith)

pub shape_of-dst : goal.shape_of-dst
shape_of-dst c =
    let i = c.loop-at.invariant in
    c.copy_block-2.auto.dst ∙ front_length i.0 i.3

pub returns : goal.returns
returns c =
    let i = c.loop-at.invariant in
    let s = c.args in
    front-last 16 i.3 (length s.src.now - 16) i.0 (omega arith) (omega arith) c.copy_block-2.ensures
