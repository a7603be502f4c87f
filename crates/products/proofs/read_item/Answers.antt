-- `products::read_item` meets its contract: a comment where a `(` stands, and otherwise a product.
use Prim.Native.Nat.{ℕ, ◌+◌}
use mathlib.Core.Path.{sym, subst}
use Rattle.std.proofs.lemmas.Result.{err_from_is_err_and}
use Rattle.products.specs.helpers.Scan.{ItemRead}
use Rattle.products.proofs.Items.{no_item, outer-refused, outer-reads}
use Rattle.products.proofs.read_item.Goals as goal

pub returns-then-s-at : goal.returns-then-s-at
returns-then-s-at c =
    no_item c.args.s.now c.args.at c.args.found c.requires c.if-s-at.true

pub returns-in_err-comment : goal.returns-in_err-comment
returns-in_err-comment c =
    let p = err_from_is_err_and c.from_residual.result c.from_residual.ensures.1 in
    rw (p.1, p.2) (outer-refused c.args.s.now c.args.at c.args.found c.requires c.if-s-at.false c.if-s-at-ne40.false _ _ c.in_err-comment.ensures)

pub returns : goal.returns
returns c =
    let s = c.args.s.now in
    let i = c.args.at in
    let f = c.args.found in
    let comment = c.in_ok-comment.comment in
    subst (λ (m : ℕ). ItemRead s i comment.end (record { products = f.products; comments = f.comments + 1; deepest = m }))
    (sym c.max.ensures)
    (outer-reads s i f c.requires c.if-s-at.false c.if-s-at-ne40.false _ _ c.in_ok-comment.ensures)
