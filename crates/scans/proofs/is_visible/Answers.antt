-- `scans::is_visible` meets its contract: by its two comparisons.
use Rattle.std.proofs.Common.{le-leb}
use borrow.Author.Tests.{lt-leb}
use Rattle.scans.proofs.is_visible.Goals as goal

pub returns-then-b-ge35 : goal.returns-then-b-ge35
returns-then-b-ge35 c = rw (le-leb 35 c.args.b c.if-b-ge35.true)

pub returns-else-b-ge35 : goal.returns-else-b-ge35
returns-else-b-ge35 c = rw (lt-leb 35 c.args.b c.if-b-ge35.false)
