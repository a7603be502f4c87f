-- `Pieces::is_over` meets its contract.
use borrow.Author.Tests.{ne_eqb}
use mathlib.Core.Path.{sym, ap}
use Rattle.pieces.specs.Reading.{over}
use Rattle.pieces.proofs.Answers.{answer-refused, answer-done, answer-more, not_done}
use Rattle.pieces.proofs.Pieces.is_over.Goals as goal

pub returns-then-self-ne0 : goal.returns-then-self-ne0
returns-then-self-ne0 c = rw (ne_eqb _ _ c.if-self-ne0.true) (sym (ap over (answer-refused c.args.self c.if-self-ne0.true)))

pub returns-in-Done : goal.returns-in-Done
returns-in-Done c = sym (ap over (answer-done c.args.self c.if-self-ne0.false _ _ c.in-Done.is))

pub returns-in_default : goal.returns-in_default
returns-in_default c =
    sym (ap over (answer-more c.args.self c.if-self-ne0.false (not_done c.args.self.position c.in_default.not-Done)))
