-- `chunk_writer::put_frame` meets its contract. The parts taken are framed, and what is still to come is the frame of the others.
use mathlib.Core.Path.{◌∙◌, ap}
use Prim.Native.Nat.{ℕ, ◌+◌, min}
use lib.ListN.{length}
use native.Mathlib.Omega.{arith}
use Rattle.std.proofs.Common.{rules}
use Rattle.std.specs.Slice.Iter.{chunks_rest}
use Rattle.chunk_writer.proofs.Cuts.{hex_short}
use Rattle.chunk_writer.proofs.Puts.{framed-start, framed-fits, framed-on, framed-all}
use Rattle.chunk_writer.proofs.put_frame.Goals as goal

pub overflow_add-width : goal.overflow_add-width
overflow_add-width c = omega (arith, c.width-width.ensures, hex_short c.args.chunk_len (omega arith))

pub loop-part-init : goal.loop-part-init
loop-part-init c = (search rules, framed-start (search rules))

pub put_part-at-requires : goal.put_part-at-requires
put_part-at-requires c =
    let i = c.loop-part.invariant in
    let n = c.in-Some.ensures.steps.1 in
    let size = n.1 ∙ ap (λ (k : ℕ). min k (length (chunks_rest c.loop-part.part-iterator))) i.0 in
    (framed-fits c.requires.1 i.1 _ _ c.requires.0 n.0 size n.2, c.size_line-line.ensures, ap (λ (k : ℕ). k + 2) c.width-width.ensures)

pub loop-part-preserved : goal.loop-part-preserved
loop-part-preserved c =
    let i = c.loop-part.invariant in
    let n = c.in-Some.ensures.steps.1 in
    let p = c.put_part-at.ensures in
    let size = n.1 ∙ ap (λ (k : ℕ). min k (length (chunks_rest c.loop-part.part-iterator))) i.0 in
    (c.in-Some.ensures.steps.0 ∙ i.0, framed-on c.requires.1 i.1 _ _ c.requires.0 n.0 size n.2 p.ends p.writes)

pub returns : goal.returns
returns c =
    let i = c.loop-part.invariant in
    framed-all c.requires.1 i.1 c.in-None.ensures.steps.1.0 c.put_end.ensures
