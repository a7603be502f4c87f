-- `copying::copy_wide` meets its contract. The first `at` bytes are copied, and a byte is left.
use Rattle.copying.specs.helpers.Runs.{Front}
use Rattle.copying.proofs.Runs.{front_length, front_block, front-over}
use mathlib.Core.Path.{◌≡◌, refl, subst}
use Prim.Native.Nat.{◌+◌}
use native.Mathlib.Omega.{arith}
use Rattle.copying.proofs.copy_wide.Goals as goal

pub loop-at-init : goal.loop-at-init
loop-at-init c = (c.requires.0, c.requires.1, record { is = refl; within = omega arith })

-- behind each of the four blocks
pub loop-at-preserved : goal.loop-at-preserved
loop-at-preserved c =
    let s = c.args in
    let at = c.loop-at.at in
    let h₁ = front_block 16 c.loop-at.invariant.2 (omega arith) c.copy_block.ensures in
    let h₂ = front-over 16 h₁ (at + 16) (omega arith) (omega arith) (omega arith) c.copy_block-in-loop-at.ensures in
    let h₃ = front-over 16 h₂ (at + 32) (omega arith) (omega arith) (omega arith) c.copy_block-in-loop-at-2.ensures in
    let h₄ = front-over 16 h₃ (at + 48) (omega arith) (omega arith) (omega arith) c.copy_block-in-loop-at-3.ensures in
    let e : at + 48 + 16 ≡ at + 64 = omega arith in
    (c.loop-at.invariant.0, omega arith, subst (Front s.dst.now s.src.now c.copy_block-in-loop-at-3.new.dst) e h₄)

pub shape_of-dst : goal.shape_of-dst
shape_of-dst c = front_length c.loop-at.invariant.0 c.loop-at.invariant.2

pub returns : goal.returns
returns c = (c.loop-at.invariant.2, c.loop-at.invariant.1)
