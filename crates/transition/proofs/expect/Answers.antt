-- `transition::expect` meets its contract.
use borrow.Author.Tests.{eq-eqb, ne_eqb}
use Rattle.framing.proofs.Turns.{no_more}
use Rattle.transition.proofs.expect.Goals as goal

pub returns-then-byte-wanted : goal.returns-then-byte-wanted
returns-then-byte-wanted c = λ room e. rw (eq-eqb _ _ c.if-byte-wanted.true) e

pub returns-else-byte-wanted : goal.returns-else-byte-wanted
returns-else-byte-wanted c = λ room e. rw (ne_eqb _ _ c.if-byte-wanted.false, no_more)
