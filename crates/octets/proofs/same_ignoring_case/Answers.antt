-- `octets::same_ignoring_case` meets its contract: what is left of both is alike just where the whole is.
use Rattle.std.proofs.Common.{◌≡◌, ◌+◌, ◌<◌, Bool, true, false, ◌&&◌, length, drop, sym, refl, ap, ◌∙◌, arith}
use Rattle.grammar.specs.Grammar.{lower}
use Rattle.octets.specs.Case.{alike}
use Rattle.octets.proofs.SameBy.{neither, by_length, by_end, by_differs, by_next}
use Rattle.octets.proofs.same_ignoring_case.Goals as goal
use Rattle.octets.proofs.same_ignoring_case.Goals.{then-lower_case, else-lower_case}

and-true : (x : Bool) {y : Bool} → y ≡ true → (x && y) ≡ x
and-true true e = e
and-true false e = refl

pub returns-then-a-b : goal.returns-then-a-b
returns-then-a-b c = let x = c.args in by_length lower x.a.now x.b.now c.if-a-b.true

pub ends_differ-requires : goal.ends_differ-requires
ends_differ-requires c = c.if-a-b.false

pub returns-then-ends_differ : goal.returns-then-ends_differ
returns-then-ends_differ c = sym (c.ends_differ.ensures c.if-ends_differ.true)

pub loop-i-init : goal.loop-i-init
loop-i-init c = (c.if-a-b.false, refl)

pub loop-i-preserved : goal.loop-i-preserved
loop-i-preserved c =
    let l = c.loop-i in
    let x = c.args in
    let h = c.loop-i-test.true in
    let k : l.i < length x.b.now = omega (arith, h, l.invariant.0) in (
      l.invariant.0,
      elim c.if-lower_case.branch [
        | then-lower_case w ↦
            ap (λ (t : Bool). t && alike (drop (l.i + 1) x.a.now) (drop (l.i + 1) x.b.now)) w.equal-is
            ∙ sym (neither l.equal (by_differs lower x.a.now x.b.now l.i h k
            (λ e. w.if-lower_case.true (c.lower_case.ensures ∙ e ∙ sym c.lower_case-in-loop-i.ensures)))) ∙ l.invariant.1
        | else-lower_case w ↦
            ap (λ (t : Bool). t && alike (drop (l.i + 1) x.a.now) (drop (l.i + 1) x.b.now)) w.equal-is
            ∙ ap (λ (t : Bool). l.equal && t) (by_next lower x.a.now x.b.now l.i h k
            (sym c.lower_case.ensures ∙ w.if-lower_case.false ∙ c.lower_case-in-loop-i.ensures)) ∙ l.invariant.1
      ],
    )

pub returns : goal.returns
returns c =
    let l = c.loop-i in
    let x = c.args in
    sym (and-true l.equal (by_end lower x.a.now x.b.now l.i c.loop-i-test.false
    (omega (arith, c.loop-i-test.false, l.invariant.0)))) ∙ l.invariant.1
