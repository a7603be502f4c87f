-- `report::put_refusal` meets its contract: two numbers behind `R`.
use Rattle.report.specs.Saying.{said_answer}
use Rattle.report.proofs.put_refusal.Goals as goal

pub returns-clause-ends : goal.returns-clause-ends
unfolding said_answer
returns-clause-ends c = c.put_two.ensures.ends

pub returns-clause-says : goal.returns-clause-says
unfolding said_answer
returns-clause-says c = c.put_two.ensures.says
