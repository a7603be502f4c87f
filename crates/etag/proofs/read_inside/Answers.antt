-- `etag::read_inside` meets its contract: each way out is what the grammar leaves there.
use native.Mathlib.Omega.{arith}
use mathlib.Core.Path.{sym}
use Rattle.etag.proofs.Scan.{opaque-cut_off, opaque_bad, tag-goes-on, tag-reads}
use Rattle.etag.proofs.read_inside.Goals as goal

pub returns-then-end-s : goal.returns-then-end-s
returns-then-end-s c =
    let x = c.args in
    let out = opaque-cut_off x.s.now x.weak x.start c.requires c.quoted_end-end.result c.quoted_end-end.ensures in
    let bad = opaque_bad x.s.now x.weak x.start c.requires c.quoted_end-end.result c.quoted_end-end.ensures in
    grind (arith, out, bad)

pub returns-then-end-s-2 : goal.returns-then-end-s-2
returns-then-end-s-2 c =
    let x = c.args in
    sym (tag-goes-on x.s.now x.weak x.start c.requires c.quoted_end-end.result c.quoted_end-end.ensures
    (omega arith) (omega arith) (omega arith))

pub overflow_sub-result : goal.overflow_sub-result
overflow_sub-result c = omega (arith, c.quoted_end-end.ensures)

pub returns : goal.returns
returns c =
    let x = c.args in
    sym (tag-reads x.s.now x.weak x.start c.requires c.quoted_end-end.result c.quoted_end-end.ensures
    (omega arith) (omega arith) (omega arith))
