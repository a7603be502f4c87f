-- `octets::ends_differ` meets its contract: parts that differ at a place are not alike.
use Rattle.std.proofs.Common.{◌≡◌, ◌-◌, not, length, get_or, sym, ap, ◌∙◌, arith, eq-eqb, true≢false}
use Rattle.grammar.specs.Grammar.{lower}
use Rattle.octets.proofs.SameBy.{by_apart}
use Rattle.octets.proofs.ends_differ.Goals as goal

pub returns-in-Some-Some : goal.returns-in-Some-Some
returns-in-Some-Some c e =
    let a = c.args.a.now in
    let b = c.args.b.now in
    let w = c.in-Some-Some in
    let last = length a - 1 in
    let x : w.x.now ≡ get_or a last 0 = w.ensures.item.4 (omega arith) 0 in
    let y : w.y.now ≡ get_or b last 0 = w.ensures'.item.4 (omega arith) 0 ∙ ap (λ n. get_or b (n - 1) 0) (sym c.requires) in
    by_apart lower a b last (omega (arith, w.ensures.item.3.0)) (omega (arith, w.ensures.item.3.0))
    (λ f. true≢false (sym e ∙ ap not (eq-eqb c.lower_case.result c.lower_case-in-Some-Some.result
    (c.lower_case.ensures ∙ ap lower x ∙ f ∙ sym (c.lower_case-in-Some-Some.ensures ∙ ap lower y)))))
