-- `date::full_year` meets its contract.
use Rattle.std.proofs.Common.{arith}
use Rattle.std.proofs.lemmas.Grind.{common_steps}
use Rattle.date.specs.Years.{full_year}
use Rattle.date.proofs.full_year.Goals as goal

pub returns-then-year-first : goal.returns-then-year-first
unfolding full_year
returns-then-year-first c = grind (arith, common_steps)

pub returns-else-year-first : goal.returns-else-year-first
unfolding full_year
returns-else-year-first c = grind (arith, common_steps)
