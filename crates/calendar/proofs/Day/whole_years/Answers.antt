-- `calendar::Day::whole_years` meets its contract: the guess is right or one too low.
use Rattle.calendar.proofs.Counting.{years-next, years-same}
use Rattle.calendar.proofs.Day.whole_years.Goals as goal

pub returns-then-days_of_years-self : goal.returns-then-days_of_years-self
returns-then-days_of_years-self c =
    years-next c.args.self.number c.args.self.in_range (rw c.days_of_years.ensures at c.if-days_of_years-self.true)

pub returns-else-days_of_years-self : goal.returns-else-days_of_years-self
returns-else-days_of_years-self c =
    years-same c.args.self.number c.args.self.in_range (rw c.days_of_years.ensures at c.if-days_of_years-self.false)
