-- `calendar::is_leap` meets its contract.
use Rattle.std.proofs.Common.{arith}
use Rattle.std.proofs.lemmas.Grind.{common_steps}
use Rattle.calendar.specs.Gregorian.{leap?}
use Rattle.calendar.proofs.is_leap.Goals as goal

pub returns-then-year-ne0 : goal.returns-then-year-ne0
unfolding leap?
returns-then-year-ne0 c = grind (arith, common_steps)

pub returns-else-year-ne0 : goal.returns-else-year-ne0
unfolding leap?
returns-else-year-ne0 c = grind (arith, common_steps)

pub returns-else-year-eq0 : goal.returns-else-year-eq0
unfolding leap?
returns-else-year-eq0 c = grind (arith, common_steps)
