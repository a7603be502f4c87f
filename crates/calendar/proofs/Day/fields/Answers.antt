-- `calendar::Day::fields` meets its contract.
use native.Mathlib.Omega.{arith}
use mathlib.Core.Path.{ap, ◌∙◌}
use Prim.Native.Nat.{◌≤◌}
use Rattle.calendar.specs.Gregorian.{days_of_years}
use Rattle.calendar.proofs.Dates.{years_bound, years_low, fields-found}
use Rattle.calendar.proofs.Day.fields.Goals as goal
use Rattle.calendar.proofs.Day.fields.Goals.{After-whole_years-years}

few-years : (c : After-whole_years-years) → c.whole_years-years.result ≤ 8416
few-years c = omega (arith, years_bound c.args.self.number c.args.self.in_range, c.whole_years-years.ensures)

pub overflow_add-year : goal.overflow_add-year
overflow_add-year c = omega (arith, few-years ((goal.at.overflow_add-year c).After-whole_years-years))

pub days_of_years-requires : goal.days_of_years-requires
days_of_years-requires c = omega (arith, few-years ((goal.at.days_of_years-requires c).After-whole_years-years))

pub overflow_sub-day_of_year : goal.overflow_sub-day_of_year
overflow_sub-day_of_year c =
    let e = c.days_of_years.ensures ∙ ap days_of_years c.whole_years-years.ensures in
    omega (arith, years_low c.args.self.number c.args.self.in_range, e)

pub returns : goal.returns
returns c =
    let x = c.args in
    fields-found x.self.number x.second _ _ _ _ _ c.whole_years-years.ensures c.days_of_years.ensures c.is_leap-leap.ensures
    c.whole_months-months.ensures c.days_before.ensures
