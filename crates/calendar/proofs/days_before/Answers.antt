-- `calendar::days_before` meets its contract: the table counts the months before.
use Rattle.calendar.proofs.Counting.{before-later, before-early, before-common}
use Rattle.calendar.proofs.days_before.Goals as goal
use Rattle.calendar.proofs.days_before.Goals.{else-leap-via-then-leap+else-index-gt1, else-leap-via-else-leap}

pub returns-then-index-gt1 : goal.returns-then-index-gt1
returns-then-index-gt1 c =
    before-later c.args.leap c.args.index c.requires c.if-leap.true c.if-index-gt1.true

pub returns-else-leap : goal.returns-else-leap
returns-else-leap c = elim c.else-leap.branch [
  | else-leap-via-then-leap+else-index-gt1 w ↦ before-early c.args.leap c.args.index c.requires w.if-leap.true w.if-index-gt1.false
  | else-leap-via-else-leap w ↦ before-common c.args.leap c.args.index c.requires w.if-leap.false
]
