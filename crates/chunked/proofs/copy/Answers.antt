-- `chunked::copy` meets its contract. The loop stands before a chunk line, with the data behind it written; chunks with the rest follow.
use Rattle.std.proofs.Common.{◌≡◌, ℕ, ◌+◌, ◌-◌, ◌≤◌, length, sym, subst, arith}
use Rattle.chunked.specs.declared.ChunkLine.{ChunkLine}
use Rattle.chunked.specs.helpers.Passes.{Known, ChunkAt, ChunksTo}
use Rattle.chunked.specs.helpers.Tails.{TailKnown}
use Rattle.chunked.proofs.Chunks.{chunks-inside}
use Rattle.chunked.proofs.Short.{some-chunk, next-chunk}
use Rattle.chunked.proofs.Copies.{copied_start, copied_on, copied_all}
use Rattle.chunked.proofs.copy.Goals as goal
use Rattle.chunked.proofs.copy.Goals.{Joined-line-eq0, else-line-eq0, then-line-eq0}

-- the line that was read, quickly or not
found : (c : Joined-line-eq0)
    → let xs = c.args.input.now in
    let r = c.if-line-eq0.line in
    Known xs r × ChunkAt xs c.loop-written.at r.length r.size × TailKnown xs c.if-line-eq0.tail
found c =
    let xs = c.args.input.now in
    elim c.if-line-eq0.branch [
      | then-line-eq0 w ↦ (
        subst (Known xs) (sym w.line-is) w.long_line-line.ensures.0,
        subst (λ (r : ChunkLine). ChunkAt xs c.loop-written.at r.length r.size) (sym w.line-is) w.long_line-line.ensures.1,
        subst (TailKnown xs) (sym w.tail-is) w.tail_of-tail.ensures,
      )
      | else-line-eq0 w ↦ (
        subst (Known xs) (sym w.line-is) c.quick_line-line.ensures.0,
        subst (λ (r : ChunkLine). ChunkAt xs c.loop-written.at r.length r.size) (sym w.line-is)
            (c.quick_line-line.ensures.1 (omega (arith, w.if-line-eq0.false))),
        subst (TailKnown xs) (sym w.tail-is) c.loop-written.invariant.2,
      )
    ]

-- behind it come chunks with the rest
rest : (c : Joined-line-eq0)
    → let s = c.args in
    let r = c.if-line-eq0.line in
    (m : ℕ) × (c.loop-written.invariant.3 ≡ r.size + m)
    × ChunksTo s.input.now (c.loop-written.at + r.length + r.size + 2) c.loop-written.invariant.5 m
    × (c.loop-written.at + r.length + (s.len - c.loop-written.written) ≤ length s.input.now)
rest c =
    let i = c.loop-written.invariant in
    let f = found c in
    let r = c.if-line-eq0.line in
    let n = next-chunk i.6 (omega (arith, i.4, c.loop-written-test.true)) r.length r.size f.1 in
    (n.0, n.1, n.2, omega (arith, i.4, n.1, chunks-inside n.2 (omega (arith, f.1.end.inside))))

pub loop-written-init : goal.loop-written-init
loop-written-init c =
    let p = c.requires.len_in_bounds in
    (copied_start, p.2, λ h. absurd (omega arith), c.args.len, omega arith, p.1.0, p.1.1)

pub quick_line-line-requires : goal.quick_line-line-requires
quick_line-line-requires c =
    let i = c.loop-written.invariant in
    (i.1, i.2, some-chunk i.6 (omega (arith, i.4, c.loop-written-test.true)))

pub long_line-line-requires : goal.long_line-line-requires
long_line-line-requires c =
    let i = c.loop-written.invariant in
    some-chunk i.6 (omega (arith, i.4, c.loop-written-test.true))

pub tail_of-tail-requires : goal.tail_of-tail-requires
tail_of-tail-requires c = c.long_line-line.ensures.0

pub overflow_add-start : goal.overflow_add-start
overflow_add-start c =
    let p = (goal.at.overflow_add-start c).Joined-line-eq0 in
    omega (arith, (found p).1.end.inside)

pub put_data-requires : goal.put_data-requires
put_data-requires c =
    let p = (goal.at.put_data-requires c).Joined-line-eq0 in (
      omega (arith, c.loop-written.invariant.4, (rest p).1),
      omega (arith, c.loop-written.invariant.0.lent, c.requires.len_in_bounds.0),
      (rest p).3,
    )

pub overflow_add-at : goal.overflow_add-at
overflow_add-at c =
    let p = (goal.at.overflow_add-at c).Joined-line-eq0 in
    omega (arith, (found p).1.end.inside)

pub overflow_add-at-in-loop-written : goal.overflow_add-at-in-loop-written
overflow_add-at-in-loop-written c =
    let p = (goal.at.overflow_add-at-in-loop-written c).Joined-line-eq0 in
    omega (arith, (found p).1.end.inside)

pub overflow_add-written : goal.overflow_add-written
overflow_add-written c =
    let p = (goal.at.overflow_add-written c).Joined-line-eq0 in
    omega (arith, c.loop-written.invariant.4, (rest p).1, c.requires.len_in_bounds.0)

pub loop-written-smaller : goal.loop-written-smaller
loop-written-smaller c =
    let p = (goal.at.loop-written-smaller c).Joined-line-eq0 in
    omega (arith, (found p).1.some, c.loop-written-test.true)

pub loop-written-preserved : goal.loop-written-preserved
loop-written-preserved c =
    let p = (goal.at.loop-written-preserved c).Joined-line-eq0 in
    let f = found p in (
      copied_on (λ (i : ℕ). omega (arith, c.type_inv.input i)) c.loop-written.invariant.0 f.1
          (omega (arith, c.loop-written.invariant.4, (rest p).1, c.requires.len_in_bounds.0)) c.put_data.ensures,
      c.remembered-last.ensures c.args.input.now f.0,
      f.2,
      (rest p).0,
      omega (arith, c.loop-written.invariant.4, (rest p).1),
      c.loop-written.invariant.5,
      (rest p).2,
    )

pub shape_of-out : goal.shape_of-out
shape_of-out c = c.loop-written.invariant.0.lent

pub returns : goal.returns
returns c =
    let w = c.requires.whole_of in
    copied_all w.1 w.2 c.loop-written.invariant.0 (omega (arith, c.loop-written-test.false))
