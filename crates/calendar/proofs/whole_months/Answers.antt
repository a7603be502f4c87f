-- `calendar::whole_months` meets its contract: a month that begins behind the day is not the one.
use native.Mathlib.Omega.{arith}
use mathlib.Core.Path.{◌∙◌}
use Prim.Native.Nat.{◌-◌}
use Rattle.calendar.specs.Gregorian.{days_of_months}
use Rattle.calendar.proofs.Counting.{last-before}
use Rattle.calendar.proofs.whole_months.Goals as goal

pub loop-k-preserved : goal.loop-k-preserved
loop-k-preserved c =
    c.loop-k.invariant
    ∙ last-before (days_of_months c.args.leap) c.args.day (c.loop-k.k - 1) (omega arith) (rw c.days_before.ensures at c.if-days_before-day.false)
