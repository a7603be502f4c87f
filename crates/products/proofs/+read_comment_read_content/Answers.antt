-- `products::read_comment` and `products::read_content` meet their contracts: by the lemmas of Comments.
use Rattle.std.proofs.Common.{sym, subst}
use Rattle.std.proofs.lemmas.Result.{err_from_is_err_and}
use Rattle.products.specs.helpers.Scan.{Passed}
use Rattle.products.proofs.Comments.{some-refused, some-reads, passed-plain, passed-refused}
use Rattle.products.proofs.Comments.{passed-cut_off, passed-comment, passed-comment-refused}
use Rattle.products.proofs.+read_comment_read_content.Goals as goal

pub read_comment-returns-in_err-content : goal.read_comment-returns-in_err-content
read_comment-returns-in_err-content t c =
    let p = err_from_is_err_and c.from_residual.result c.from_residual.ensures.1 in
    rw (p.1, p.2) (some-refused c.args.s.now c.args.at c.args.allowed c.if-allowed-eq0.false _ _ c.in_err-content.ensures)

pub read_comment-returns : goal.read_comment-returns
read_comment-returns t c = some-reads c.args.s.now c.args.at c.args.allowed c.if-allowed-eq0.false _ _ c.in_ok-content.ensures

pub read_content-returns-in_err-comment-in-40 : goal.read_content-returns-in_err-comment-in-40
read_content-returns-in_err-comment-in-40 t c =
    let l = c.loop-i in
    let p = err_from_is_err_and c.from_residual.result c.from_residual.ensures.1 in
    rw (p.1, p.2) (passed-comment-refused c.args.s.now c.args.from c.args.allowed l.i l.levels l.invariant c.loop-i-test.true c.in-40.is _ _
    c.in_err-comment-in-40.ensures)

pub read_content-loop-i-preserved-in-40 : goal.read_content-loop-i-preserved-in-40
read_content-loop-i-preserved-in-40 t c =
    let x = c.args in
    let l = c.loop-i in
    let comment = c.in_ok-comment-in-40.comment in
    subst (Passed x.s.now x.from x.allowed comment.end) (sym c.max-levels.ensures)
    (passed-comment x.s.now x.from x.allowed l.i l.levels l.invariant c.loop-i-test.true c.in-40.is _ _ c.in_ok-comment-in-40.ensures)

pub read_content-returns-in_err-i-in_default : goal.read_content-returns-in_err-i-in_default
read_content-returns-in_err-i-in_default t c =
    let l = c.loop-i in
    let p = err_from_is_err_and c.from_residual-in_err-i-in_default.result c.from_residual-in_err-i-in_default.ensures.1 in
    rw (p.1, p.2) (passed-refused c.args.s.now c.args.from c.args.allowed l.i l.levels l.invariant _ _ (c.in_err-i-in_default.ensures c.args.allowed))

pub read_content-loop-i-preserved : goal.read_content-loop-i-preserved
read_content-loop-i-preserved t c =
    let l = c.loop-i in
    passed-plain c.args.s.now c.args.from c.args.allowed l.i l.levels l.invariant _ c.in_ok-i-in_default.ensures

pub read_content-returns : goal.read_content-returns
read_content-returns t c =
    let l = c.loop-i in
    passed-cut_off c.args.s.now c.args.from c.args.allowed l.i l.levels l.invariant c.loop-i-test.false
