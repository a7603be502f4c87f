-- `plain_chunks::pass` meets its contract: the loop stands behind whole chunks.
use native.Mathlib.Omega.{arith}
use mathlib.Core.Path.{◌≡◌, refl, ◌∙◌, ap, subst}
use mathlib.Core.List.{List}
use Prim.Native.Nat.{ℕ, ◌+◌, ◌-◌}
use lib.ListN.{length, take, drop, length-drop}
use lib.Seq.{take_all}
use Rattle.text.specs.Placing.{placed}
use Rattle.plain_chunks.specs.declared.Chunk.{Chunk}
use Rattle.plain_chunks.specs.declared.Chunk.TheVariants.{Whole, Begun}
use Rattle.plain_chunks.specs.helpers.Runs.{PlainChunk}
use Rattle.plain_chunks.proofs.Chunks.{chunks-none, chunks-on, begun-passed, none_passed}
use Rattle.plain_chunks.proofs.pass.Goals as goal

-- the bytes from a place on are all of those behind it
all : (bytes : List ℕ) (at left : ℕ) (r : Chunk) → PlainChunk (take (length bytes - at) (drop at bytes)) left r → PlainChunk (drop at bytes) left r
all bytes at left r =
    subst (λ (z : List ℕ). PlainChunk z left r) (take_all (length bytes - at) (drop at bytes) (omega (arith, length-drop at bytes)))

pub returns-then-before-room : goal.returns-then-before-room
returns-then-before-room c = none_passed c.args.before

pub loop-at-init : goal.loop-at-init
loop-at-init c = (chunks-none (length c.args.out.now) (omega arith), tt)

pub loop-at-preserved : goal.loop-at-preserved
loop-at-preserved c =
    let x = c.args in
    let line = c.in-Whole.line in
    let i : ℕ = c.loop-at.at + line.length in
    let v : ℕ = line.size in
    let f = all x.bytes.now c.loop-at.at (length x.out.now - c.loop-at.total) (Whole line) c.in-Whole.ensures in
    let z : i + v - i ≡ v = omega arith in (
      chunks-on refl c.loop-at.invariant.0 (λ j. omega (arith, c.type_inv.bytes j)) f.0 f.1
          (c.put_data.ensures
          ∙ ap (λ (n : ℕ). placed c.loop-at.out c.loop-at.total (take n (drop i x.bytes.now))) z),
      c.short_line-last.ensures.0,
    )

pub returns-in-Begun : goal.returns-in-Begun
returns-in-Begun c =
    let x = c.args in
    begun-passed c.loop-at.invariant.0
    (all x.bytes.now c.loop-at.at (length x.out.now - c.loop-at.total) (Begun c.in-Begun.line) c.in-Begun.ensures)
