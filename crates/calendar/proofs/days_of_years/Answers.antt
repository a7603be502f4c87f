-- `calendar::days_of_years` meets its contract.
use mathlib.Core.Path.{sym}
use Rattle.calendar.proofs.Counting.{days_formula-counts}
use Rattle.calendar.proofs.days_of_years.Goals as goal

pub returns : goal.returns
returns c = sym (days_formula-counts c.args.n)
