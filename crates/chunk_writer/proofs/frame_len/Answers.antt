-- `chunk_writer::frame_len` meets its contract. No sum wraps, since a size has at most 64 digits; the length is that of full chunks and
-- the rest.
use mathlib.Core.Path.{ap₂, sym, ◌∙◌, ap}
use Prim.Native.Nat.{ℕ, ◌+◌, ◌*◌, ◌/◌, ◌≤◌}
use native.Mathlib.Omega.{arith}
use lib.ListN.{length}
use Rattle.chunk_writer.specs.Writing.{BODY_LIMIT}
use Rattle.chunk_writer.proofs.Cuts.{hex_short, rest-short, lines_fit, frame-full, frame-rest}
use Rattle.chunk_writer.proofs.frame_len.Goals as goal
use Rattle.chunk_writer.proofs.frame_len.Goals.{After-width, After-width-2}

-- the length of a size line, and of all of them
lines : (c : After-width) → (c.width.result ≤ 64)
    × (length c.args.body.now / c.args.chunk_len * (c.width.result + 4) ≤ BODY_LIMIT * 68)
lines c =
    let w : c.width.result ≤ 64 = omega (arith, c.width.ensures, hex_short c.args.chunk_len (omega arith)) in
    (w, lines_fit (length c.args.body.now) c.args.chunk_len c.width.result c.requires.1 w)

-- the length of the last size line
rest-line : (c : After-width-2) → c.width-2.result ≤ 64
rest-line c =
    omega (arith, c.width-2.ensures, rest-short (length c.args.body.now) c.args.chunk_len c.requires.0 (omega arith))

pub overflow_add-len : goal.overflow_add-len
overflow_add-len c = omega (arith, (lines ((goal.at.overflow_add-len c).After-width)).0)

pub overflow_mul-len : goal.overflow_mul-len
overflow_mul-len c = omega (arith, (lines ((goal.at.overflow_mul-len c).After-width)).1)

pub overflow_add-len-2 : goal.overflow_add-len-2
overflow_add-len-2 c = omega (arith, (lines ((goal.at.overflow_add-len-2 c).After-width)).1, c.requires.1)

pub overflow_add-len-3 : goal.overflow_add-len-3
overflow_add-len-3 c = omega (arith, (lines ((goal.at.overflow_add-len-3 c).After-width)).1, c.requires.1)

pub returns-then-rest-eq0 : goal.returns-then-rest-eq0
returns-then-rest-eq0 c =
    let body = c.args.body.now in
    let n = c.args.chunk_len in
    ap (λ (w : ℕ). length body + length body / n * (w + 4) + 5) c.width.ensures
    ∙ sym (frame-full n c.requires.0 body c.if-rest-eq0.true)

pub overflow_add-result : goal.overflow_add-result
overflow_add-result c =
    let a = goal.at.overflow_add-result c in
    omega (arith, (lines a.After-width).1, c.requires.1, rest-line a.After-width-2)

pub overflow_add-result-2 : goal.overflow_add-result-2
overflow_add-result-2 c =
    let a = goal.at.overflow_add-result-2 c in
    omega (arith, (lines a.After-width).1, c.requires.1, rest-line a.After-width-2)

pub returns : goal.returns
returns c =
    let body = c.args.body.now in
    let n = c.args.chunk_len in
    ap₂ (λ (w r : ℕ). length body + length body / n * (w + 4) + 5 + r + 4) c.width.ensures c.width-2.ensures
    ∙ sym (frame-rest n c.requires.0 body (omega (arith, c.if-rest-eq0.false)))
