-- `products::read_product` meets its contract: the first token, and the slash with the second one.
use Prim.Native.Nat.{ℕ, ◌+◌, ◌<◌}
use native.Mathlib.Omega.{arith}
use mathlib.Core.Path.{◌≡◌, sym, ap, subst, ◌∙◌}
use lib.ListN.{length, get_or}
use Rattle.octets.specs.Bytes.{token?}
use Rattle.octets.proofs.Tables.{token-bits}
use Rattle.scans.specs.helpers.Runs.{run_end}
use Rattle.grammar.specs.Reading.{refused}
use Rattle.products.specs.helpers.Scan.{ItemRead}
use Rattle.products.proofs.Items.{with_product, no_product, bare-product, no_second, slashed_product}
use Rattle.products.proofs.read_product.Goals as goal
use Rattle.products.proofs.read_product.Goals.{then-s-name-via-then-s-name, then-s-name-via-else-s-name+then-s-name-ne47}

pub returns-then-name-at : goal.returns-then-name-at
returns-then-name-at c =
    let s = c.args.s.now in
    let i = c.args.at in
    let f = c.args.found in
    no_product s i f c.requires (sym (c.class_end-name.ensures token? token-bits) ∙ c.if-name-at.true)

pub returns-then-s-name : goal.returns-then-s-name
returns-then-s-name c =
    let s = c.args.s.now in
    let i = c.args.at in
    let f = c.args.found in
    let e = c.class_end-name.ensures token? token-bits in
    let n : run_end token? s i ≡ i → ⊥ = λ q. c.if-name-at.false (e ∙ q) in
    subst (λ (m : ℕ). ItemRead s i m (with_product f)) (sym e)
    (bare-product s i f c.requires n
    (elim c.then-s-name.branch [
      | then-s-name-via-then-s-name w ↦ λ at. absurd (omega (arith, e, w.if-s-name.true))
      | then-s-name-via-else-s-name+then-s-name-ne47 w ↦ λ at q. w.if-s-name-ne47.true (ap (λ (m : ℕ). get_or s m 0) e ∙ q)
    ]))

pub returns-then-end-name : goal.returns-then-end-name
returns-then-end-name c =
    let s = c.args.s.now in
    let i = c.args.at in
    let f = c.args.found in
    let e = c.class_end-name.ensures token? token-bits in
    let n : run_end token? s i ≡ i → ⊥ = λ q. c.if-name-at.false (e ∙ q) in
    let g = c.class_end-end.ensures token? token-bits ∙ ap (λ (m : ℕ). run_end token? s (m + 1)) e in
    let at : run_end token? s i < length s = subst (λ (m : ℕ). m < length s) e c.if-s-name.false in
    let slash : get_or s (run_end token? s i) 0 ≡ 47 = subst (λ (m : ℕ). get_or s m 0 ≡ 47) e c.if-s-name-ne47.false in
    no_second s i f c.requires n at slash (sym g ∙ c.if-end-name.true ∙ ap (λ (m : ℕ). m + 1) e) ∙ ap (refused 1) (sym g)

pub returns : goal.returns
returns c =
    let s = c.args.s.now in
    let i = c.args.at in
    let f = c.args.found in
    let e = c.class_end-name.ensures token? token-bits in
    let n : run_end token? s i ≡ i → ⊥ = λ q. c.if-name-at.false (e ∙ q) in
    let g = c.class_end-end.ensures token? token-bits ∙ ap (λ (m : ℕ). run_end token? s (m + 1)) e in
    let at : run_end token? s i < length s = subst (λ (m : ℕ). m < length s) e c.if-s-name.false in
    let slash : get_or s (run_end token? s i) 0 ≡ 47 = subst (λ (m : ℕ). get_or s m 0 ≡ 47) e c.if-s-name-ne47.false in
    subst (λ (m : ℕ). ItemRead s i m (with_product f)) (sym g) (slashed_product s i f c.requires n at slash (λ q. c.if-end-name.false (g ∙ q ∙ ap (λ (m : ℕ). m + 1) (sym e))))
