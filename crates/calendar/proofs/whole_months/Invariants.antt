-- `calendar::whole_months` meets its contract: no month looked at began before the day.
use Prim.Native.Nat.{◌-◌}
use mathlib.Core.Path.{◌≡◌}
use Rattle.calendar.specs.Gregorian.{days_of_months}
use Rattle.calendar.specs.Instants.{last_within, months_before}
use Rattle.calendar.proofs.whole_months.Given as goal

abbrev pub invariant-loop-k : goal.invariant-loop-k
invariant-loop-k l = months_before l.leap l.day ≡ last_within (days_of_months l.leap) (l.k - 1) l.day
