-- `chunked::read_chunks` meets its contract. The loop stands before a chunk line, behind chunks with what the room has lost.
use Rattle.std.proofs.Common.{ℕ, ◌+◌, ◌-◌, ◌≤◌, arith}
use Rattle.chunked.specs.helpers.Passes.{ChunkAt}
use Rattle.chunked.proofs.Passes.{first_fits}
use Rattle.chunked.proofs.Chunks.{Stands, stands, stands_on, reached-left}
use Rattle.chunked.proofs.read_chunks.Goals as goal
use Rattle.chunked.proofs.read_chunks.Given.{Over}
use Rattle.chunked.proofs.read_chunks.Goals.{Else-last-eq0}

-- the chunk that stands there
found : (g : Over) (c : Else-last-eq0 g)
    → let r = c.read-last.result in
    (r.size ≤ c.loop-total.left) × ChunkAt c.args.input.now c.loop-total.at r.length r.size
found g c =
    (c.requires.reads _ _ _ c.loop-total.invariant.2.at.within c.read-last.ensures).1 (omega (arith, c.if-last-eq0.false))

-- behind it
behind : (g : Over) (c : Else-last-eq0 g)
    → let s = c.args in
    let r = c.read-last.result in
    Stands s.room s.input.now (c.loop-total.at + r.length + r.size + 2) (c.loop-total.invariant.0 + r.size)
behind g c =
    stands_on (λ (k : ℕ). omega (arith, c.type_inv.input k)) c.loop-total.invariant.2 (found g c).1
    (omega (arith, c.loop-total.invariant.1, (found g c).0))

pub overflow_sub-left : goal.overflow_sub-left
overflow_sub-left g c = first_fits c.requires.reached.at

pub loop-total-init : goal.loop-total-init
loop-total-init g c =
    (c.args.run.total, omega (arith, first_fits c.requires.reached.at), stands c.requires.reached, omega arith)

pub returns-then-last-eq0 : goal.returns-then-last-eq0
returns-then-last-eq0 g c =
    let i = c.loop-total.invariant in
    (reached-left c.loop-total.left i.1 i.2 (c.requires.reads _ _ _ i.2.at.within c.read-last.ensures).0, i.3)

pub overflow_add-at : goal.overflow_add-at
overflow_add-at g c = omega (arith, (found g ((goal.at.overflow_add-at g c).Else-last-eq0)).1.end.inside)

pub overflow_add-at-in-loop-total : goal.overflow_add-at-in-loop-total
overflow_add-at-in-loop-total g c =
    omega (arith, (found g ((goal.at.overflow_add-at-in-loop-total g c).Else-last-eq0)).1.end.inside)

pub overflow_add-at-in-loop-total-2 : goal.overflow_add-at-in-loop-total-2
overflow_add-at-in-loop-total-2 g c =
    omega (arith, (found g ((goal.at.overflow_add-at-in-loop-total-2 g c).Else-last-eq0)).1.end.inside)

pub overflow_sub-left-in-loop-total : goal.overflow_sub-left-in-loop-total
overflow_sub-left-in-loop-total g c = (found g ((goal.at.overflow_sub-left-in-loop-total g c).Else-last-eq0)).0

pub returns-then-last-size : goal.returns-then-last-size
returns-then-last-size g c =
    let p = (goal.at.returns-then-last-size g c).Else-last-eq0 in
    let i = c.loop-total.invariant in (
      reached-left (c.loop-total.left - c.read-last.result.size) (omega (arith, i.1, (found g p).0)) (behind g p)
          (c.requires.reads _ _ _ i.2.at.within c.read-last.ensures).0,
      omega (arith, i.3),
    )

pub loop-total-smaller : goal.loop-total-smaller
loop-total-smaller g c = omega (arith, (found g ((goal.at.loop-total-smaller g c).Else-last-eq0)).1.end.inside)

pub loop-total-preserved : goal.loop-total-preserved
loop-total-preserved g c =
    let p = (goal.at.loop-total-preserved g c).Else-last-eq0 in (
      c.loop-total.invariant.0 + c.read-last.result.size,
      omega (arith, c.loop-total.invariant.1, (found g p).0),
      behind g p,
      omega (arith, c.loop-total.invariant.3),
    )
