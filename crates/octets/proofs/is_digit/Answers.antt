-- `octets::is_digit` meets its contract: the two comparisons are those of the class.
use Prim.Native.Char.{code}
use Rattle.std.proofs.Common.{le-leb}
use borrow.Author.Tests.{lt-leb}
use Rattle.octets.specs.Bytes.{digit?}
use Rattle.octets.proofs.is_digit.Goals as goal

pub returns-then-b-ge48 : goal.returns-then-b-ge48
unfolding digit?
returns-then-b-ge48 c = rw (le-leb (code "0") c.args.b c.if-b-ge48.true)

pub returns-else-b-ge48 : goal.returns-else-b-ge48
unfolding digit?
returns-else-b-ge48 c = rw (lt-leb (code "0") c.args.b c.if-b-ge48.false)
