-- `language::read_subtags` meets its contract: behind each part, the answer is what the grammar leaves there.
use Prim.Native.Nat.{ℕ, ◌+◌}
use native.Mathlib.Omega.{arith}
use mathlib.Core.Path.{sym, ap, subst, ◌∙◌}
use Rattle.grammar.specs.Reading.{refused}
use Rattle.language.specs.helpers.Scan.{Behind}
use Rattle.language.proofs.Scan.{part-short, tag-reads, hyphen_not, subtag-none, subtag-reads}
use Rattle.language.proofs.read_subtags.Goals as goal

pub loop-at-init : goal.loop-at-init
loop-at-init c = c.requires

pub returns-then-end-at : goal.returns-then-end-at
returns-then-end-at c =
    let e = c.if-end-at.true in
    ap (refused 1) e
    ∙ sym (subtag-none c.args.s.now c.loop-at.parts _ c.loop-at.at c.loop-at.invariant
    c.loop-at-test.true (omega arith) (sym c.part_end-end.ensures ∙ e))

pub overflow_add-parts : goal.overflow_add-parts
overflow_add-parts c =
    omega (arith, c.loop-at.invariant.few, c.loop-at-test.true)

pub loop-at-smaller : goal.loop-at-smaller
loop-at-smaller c =
    let t = c.loop-at-test.true in
    omega (arith, c.part_end-end.ensures, (part-short c.args.s.now (c.loop-at.at + 1) (omega (arith, t))).ordered, t)

pub loop-at-preserved : goal.loop-at-preserved
loop-at-preserved c =
    let x = c.args in
    let e = c.part_end-end.ensures in
    subst (λ (n : ℕ). Behind x.s.now (c.loop-at.parts + 1) x.primary_length n) (sym e)
    (subtag-reads x.s.now c.loop-at.parts x.primary_length c.loop-at.at c.loop-at.invariant
    c.loop-at-test.true (omega arith) (λ z. c.if-end-at.false (e ∙ z)))

pub returns : goal.returns
returns c =
    let l = c.loop-at in
    sym (tag-reads c.args.s.now l.parts _ l.at l.invariant c.loop-at-test.false)

pub returns-then-s-at-ne45 : goal.returns-then-s-at-ne45
returns-then-s-at-ne45 c =
    sym (hyphen_not c.args.s.now c.loop-at.parts _ c.loop-at.at c.loop-at.invariant c.loop-at-test.true
    c.if-s-at-ne45.true)
