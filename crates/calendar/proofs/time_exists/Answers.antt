-- `calendar::time_exists` meets its contract.
use Rattle.std.proofs.Common.{arith}
use Rattle.std.proofs.lemmas.Grind.{common_steps}
use Rattle.calendar.specs.Gregorian.{time?}
use Rattle.calendar.proofs.time_exists.Goals as goal

pub returns-then-minute-lt60 : goal.returns-then-minute-lt60
unfolding time?
returns-then-minute-lt60 c = grind (arith, common_steps)

pub returns-else-minute-lt60 : goal.returns-else-minute-lt60
unfolding time?
returns-else-minute-lt60 c = grind (arith, common_steps)
