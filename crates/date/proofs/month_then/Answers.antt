-- `date::month_then` meets its contract.
use Prim.Native.Nat.{◌+◌}
use native.Mathlib.Omega.{arith}
use mathlib.Core.Path.{refl}
use lib.ListN.{drop}
use Rattle.date.specs.Names.{month_names}
use Rattle.date.proofs.Tables.{number_bound, longest_bound, fit_bound, numbered-none, numbered-some, no_month, shape-stops, text-goes-on, month-is}
use Rattle.date.proofs.month_then.Goals as goal
use Rattle.date.proofs.month_then.Goals.{then-fits-shape-via-then-fits-shape, then-fits-shape-via-else-fits-shape+then-end-s}

pub overflow_add-result : goal.overflow_add-result
overflow_add-result c =
    let x = c.args in
    omega (arith, longest_bound month_names (drop x.at x.s.now), c.longest_at.ensures)

pub returns-in_default : goal.returns-in_default
returns-in_default c =
    let x = c.args in
    no_month x.shape.now x.s.now x.at _ _ refl (numbered-none _ c.in_default.ensures) c.longest_at.ensures

pub overflow_add-end-2 : goal.overflow_add-end-2
overflow_add-end-2 c =
    let x = c.args in
    omega (arith, fit_bound x.shape.now (drop (x.at + 3) x.s.now), c.fitting_at-fits.ensures)

pub returns-then-fits-shape : goal.returns-then-fits-shape
returns-then-fits-shape c =
    let x = c.args in
    let m = numbered-some _ _ c.in-Some.ensures in
    elim c.then-fits-shape.branch [
      | then-fits-shape-via-then-fits-shape w ↦ shape-stops x.shape.now x.s.now x.at _ _ m.0 m.1 c.fitting_at-fits.ensures w.if-fits-shape.true
      | then-fits-shape-via-else-fits-shape+then-end-s w ↦
          text-goes-on x.shape.now x.s.now x.at _ _ m.0 m.1 c.fitting_at-fits.ensures w.if-fits-shape.false w.if-end-s.true
    ]

pub overflow_cast-result : goal.overflow_cast-result
overflow_cast-result c =
    let x = c.args in
    omega (arith, number_bound 0 month_names (drop x.at x.s.now), (numbered-some _ _ c.in-Some.ensures).0)

pub returns : goal.returns
returns c =
    let x = c.args in
    let m = numbered-some _ _ c.in-Some.ensures in
    month-is x.shape.now x.s.now x.at _ _ m.0 m.1 c.fitting_at-fits.ensures c.if-fits-shape.false c.if-end-s.false
