-- `delta::read_end` meets its contract: behind the digits the grammar leaves nothing.
use mathlib.Core.Path.{sym}
use Rattle.delta.proofs.Scan.{seconds_go_on, seconds-read}
use Rattle.delta.proofs.read_end.Goals as goal

pub returns-then-at-s : goal.returns-then-at-s
returns-then-at-s c =
    let x = c.args in
    sym (seconds_go_on x.s.now x.seconds x.at c.requires c.if-at-s.true)

pub returns : goal.returns
returns c =
    let x = c.args in
    sym (seconds-read x.s.now x.seconds x.at c.requires c.if-at-s.false)
