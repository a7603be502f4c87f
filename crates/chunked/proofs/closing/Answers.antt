-- `chunked::closing` meets its contract.
use Rattle.chunked.proofs.Lines.{closed-empty}
use Rattle.chunked.proofs.closing.Goals as goal

pub overflow_sub-input : goal.overflow_sub-input
overflow_sub-input c = c.requires.within

pub returns-then-crlf_at : goal.returns-then-crlf_at
returns-then-crlf_at c = closed-empty c.requires (c.crlf_at.ensures c.if-crlf_at.true)
