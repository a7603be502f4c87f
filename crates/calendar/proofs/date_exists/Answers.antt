-- `calendar::date_exists` meets its contract.
use Rattle.std.proofs.Common.{arith}
use Rattle.std.proofs.lemmas.Grind.{common_steps}
use Rattle.calendar.specs.Gregorian.{date?}
use Rattle.calendar.proofs.date_exists.Goals as goal

pub returns-then-day-ge1 : goal.returns-then-day-ge1
unfolding date?
returns-then-day-ge1 c = grind (arith, common_steps)

pub returns-else-day-ge1 : goal.returns-else-day-ge1
unfolding date?
returns-else-day-ge1 c = grind (arith, common_steps)
