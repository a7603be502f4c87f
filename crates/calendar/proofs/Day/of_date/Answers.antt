-- `calendar::Day::of_date` meets its contract.
use native.Mathlib.Omega.{arith}
use mathlib.Core.Path.{◌≡◌}
use Prim.Native.Nat.{◌+◌, ◌-◌}
use Rattle.calendar.specs.Gregorian.{day_number}
use Rattle.calendar.proofs.Dates.{DateIs, date_is, number_small, number_sum}
use Rattle.calendar.proofs.Day.of_date.Goals as goal
use Rattle.calendar.proofs.Day.of_date.Goals.{After-days_before-months, Start}

dated : (c : Start) → DateIs c.args.year c.args.month c.args.day
dated c = date_is c.args.year c.args.month c.args.day c.requires

sum_is : (c : After-days_before-months) → c.days_of_years-years.result + c.days_before-months.result + (c.args.day - 1) ≡ day_number c.args.year c.args.month c.args.day
sum_is c = number_sum c.args.year c.args.month c.args.day _ _ _ c.days_of_years-years.ensures c.is_leap.ensures c.days_before-months.ensures

pub overflow_sub-year : goal.overflow_sub-year
overflow_sub-year c = (dated ((goal.at.overflow_sub-year c).Start)).from_first

pub days_of_years-years-requires : goal.days_of_years-years-requires
days_of_years-years-requires c = omega (arith, (dated ((goal.at.days_of_years-years-requires c).Start)).to_last)

pub overflow_sub-month : goal.overflow_sub-month
overflow_sub-month c = (dated ((goal.at.overflow_sub-month c).Start)).from_january

pub days_before-months-requires : goal.days_before-months-requires
days_before-months-requires c = omega (arith, (dated ((goal.at.days_before-months-requires c).Start)).to_december, (dated ((goal.at.days_before-months-requires c).Start)).from_january)

pub overflow_add-result : goal.overflow_add-result
overflow_add-result c =
    let x = c.args in
    omega (arith, number_small x.year x.month x.day (dated ((goal.at.overflow_add-result c).Start)), sum_is ((goal.at.overflow_add-result c).After-days_before-months))

pub overflow_sub-result : goal.overflow_sub-result
overflow_sub-result c = (dated ((goal.at.overflow_sub-result c).Start)).from_one

pub overflow_add-result-2 : goal.overflow_add-result-2
overflow_add-result-2 c =
    let x = c.args in
    omega (arith, number_small x.year x.month x.day (dated ((goal.at.overflow_add-result-2 c).Start)), sum_is ((goal.at.overflow_add-result-2 c).After-days_before-months))

pub returns : goal.returns
returns c = sum_is ((goal.at.returns c).After-days_before-months)

pub invariant_of-result : goal.invariant_of-result
invariant_of-result c =
    let x = c.args in
    omega (arith, number_small x.year x.month x.day (dated ((goal.at.invariant_of-result c).Start)), sum_is ((goal.at.invariant_of-result c).After-days_before-months))
