-- `chunked::same_chunks` meets its contract.
use Rattle.std.proofs.Common.{ℕ, ◌-◌, ◌≤◌, arith}
use Rattle.chunked.specs.helpers.Passes.{ChunkAt}
use Rattle.chunked.proofs.Passes.{first_fits}
use Rattle.chunked.proofs.Chunks.{stands, stands_on, reached}
use Rattle.chunked.proofs.same_chunks.Goals as goal
use Rattle.chunked.proofs.same_chunks.Goals.{In-loop-at}

-- the chunk that stands there
found : (c : In-loop-at)
    → let s = c.args in
    (s.run.last.size ≤ s.room - c.loop-at.total) × ChunkAt s.input.now c.loop-at.at s.run.last.length s.run.last.size
found c = c.again.ensures c.loop-at-test.true

pub loop-at-init : goal.loop-at-init
loop-at-init c =
    let p = c.requires in
    (stands p, p.known, omega arith)

pub overflow_sub-room : goal.overflow_sub-room
overflow_sub-room c = first_fits c.loop-at.invariant.0.at

pub again-requires : goal.again-requires
again-requires c = (c.loop-at.invariant.0.at.within, c.loop-at.invariant.1)

pub overflow_add-at : goal.overflow_add-at
overflow_add-at c = omega (arith, (found ((goal.at.overflow_add-at c).In-loop-at)).1.end.inside)

pub overflow_add-at-in-loop-at : goal.overflow_add-at-in-loop-at
overflow_add-at-in-loop-at c =
    let p = (goal.at.overflow_add-at-in-loop-at c).In-loop-at in
    omega (arith, (found p).1.end.inside)

pub overflow_add-at-in-loop-at-2 : goal.overflow_add-at-in-loop-at-2
overflow_add-at-in-loop-at-2 c =
    let p = (goal.at.overflow_add-at-in-loop-at-2 c).In-loop-at in
    omega (arith, (found p).1.end.inside)

pub overflow_add-total : goal.overflow_add-total
overflow_add-total c =
    omega (arith, first_fits c.loop-at.invariant.0.at, (found ((goal.at.overflow_add-total c).In-loop-at)).0)

pub loop-at-smaller : goal.loop-at-smaller
loop-at-smaller c = omega (arith, (found ((goal.at.loop-at-smaller c).In-loop-at)).1.end.inside)

pub loop-at-preserved : goal.loop-at-preserved
loop-at-preserved c =
    let p = (goal.at.loop-at-preserved c).In-loop-at in (
      stands_on (λ (k : ℕ). omega (arith, c.type_inv.input k)) c.loop-at.invariant.0 (found p).1
          (omega (arith, first_fits c.loop-at.invariant.0.at, (found p).0)),
      c.loop-at.invariant.1,
      omega (arith, c.loop-at.invariant.2),
    )

pub returns : goal.returns
returns c =
    let i = c.loop-at.invariant in
    (reached i.0 i.1, i.2)
