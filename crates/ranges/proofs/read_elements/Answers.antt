-- `ranges::read_elements` meets its contract: the table holds the ranges of the elements that were read.
use native.Mathlib.Omega.{arith}
use mathlib.Core.Path.{◌≡◌, refl, sym, subst}
use mathlib.Core.List.{[]}
use Rattle.std.proofs.Common.{rules, Err}
use Rattle.octets.specs.declared.Refusal.TheVariants.{Malformed}
use Rattle.ranges.specs.Reading.{Answered}
use Rattle.ranges.specs.helpers.Scan.{Read}
use Rattle.ranges.proofs.Filled.{filling_few, filling_counted, filling_kept, filling_left-out}
use Rattle.ranges.proofs.Filled.{none_read, told_none, told_some, refused-answer, refused-found}
use Rattle.ranges.proofs.read_elements.Goals as goal
use Rattle.ranges.proofs.read_elements.Goals.{In_ok-element, then-from-to, else-from-to}

pub loop-at-init : goal.loop-at-init
loop-at-init c = record { read = []; found = c.requires.found; number = refl; is = refl; counted = refl }

pub returns-in_err-element : goal.returns-in_err-element
returns-in_err-element c =
    let x = c.args in
    let inv = c.loop-at.invariant in
    let r = c.in_err-element.field-0.0 in
    let e : c.from_residual.result ≡ Err r = search rules in
    subst (Answered x.entity_length x.s.now) (sym e)
    (refused-found x.entity_length x.s.now r c.requires.length_within
    (c.in_err-element.ensures x.entity_length inv.read inv.number c.loop-at-test.true inv.found))

-- the element that was read
passed : (c : In_ok-element) → Read c.args.entity_length c.args.s.now c.loop-at.invariant.read c.loop-at.at c.in_ok-element.field-0.element c.in_ok-element.field-0.end
passed c =
    let inv = c.loop-at.invariant in
    c.in_ok-element.ensures c.args.entity_length inv.read inv.number c.loop-at-test.true inv.found

pub offset_bounds-entries-count : goal.offset_bounds-entries-count
offset_bounds-entries-count c =
    omega (arith, filling_few c.loop-at.invariant (passed ((goal.at.offset_bounds-entries-count c).In_ok-element)))

pub bounds-entries-count : goal.bounds-entries-count
bounds-entries-count c = filling_few c.loop-at.invariant (passed ((goal.at.bounds-entries-count c).In_ok-element))

pub overflow_add-count : goal.overflow_add-count
overflow_add-count c = omega (arith, filling_few c.loop-at.invariant (passed ((goal.at.overflow_add-count c).In_ok-element)))

pub overflow_add-elements : goal.overflow_add-elements
overflow_add-elements c =
    omega (arith, filling_counted c.loop-at.invariant (passed ((goal.at.overflow_add-elements c).In_ok-element)))

pub loop-at-smaller : goal.loop-at-smaller
loop-at-smaller c = omega (arith, (passed ((goal.at.loop-at-smaller c).In_ok-element)).further, c.loop-at-test.true)

pub loop-at-preserved : goal.loop-at-preserved
loop-at-preserved c =
    let inv = c.loop-at.invariant in
    let p = passed ((goal.at.loop-at-preserved c).In_ok-element) in
    let begins = c.begin-from.ensures in
    let ends = c.end-to.ensures in
    elim c.if-from-to.branch [
      | then-from-to w ↦ filling_kept inv p begins ends w.if-from-to.true w.entries-is w.count-is
      | else-from-to w ↦ filling_left-out inv p begins ends w.if-from-to.false w.entries-is w.count-is
    ]

pub returns-then-elements-eq0 : goal.returns-then-elements-eq0
returns-then-elements-eq0 c =
    let x = c.args in
    refused-answer x.entity_length x.s.now (Malformed c.loop-at.at)
    (none_read c.loop-at.invariant c.requires.length_within c.if-elements-eq0.true (omega (arith, c.loop-at-test.false)))

pub returns-then-count-eq0 : goal.returns-then-count-eq0
returns-then-count-eq0 c =
    told_none c.loop-at.invariant c.requires.length_within c.if-elements-eq0.false (omega (arith, c.loop-at-test.false)) c.if-count-eq0.true

pub returns : goal.returns
returns c =
    told_some c.loop-at.invariant c.requires.length_within c.if-elements-eq0.false (omega (arith, c.loop-at-test.false)) c.if-count-eq0.false
