-- `http_url::plain_end` meets its contract: each block passed is more of the stretch.
use Rattle.std.proofs.Common.{arith}
use Rattle.http_url.specs.Bytes.{path?}
use Rattle.http_url.specs.helpers.Scan.{empty}
use Rattle.http_url.proofs.Stretches.{stretch_on}
use Rattle.http_url.proofs.plain_end.Goals as goal

pub loop-i-init : goal.loop-i-init
loop-i-init c = record { plain = empty; within = c.requires }

pub loop-i-preserved : goal.loop-i-preserved
loop-i-preserved c =
    let l = c.loop-i in
    let x = c.args in record {
      plain = stretch_on path? x.s.now x.from l.i 32 l.invariant.plain (omega arith) (c.are_plain.ensures c.if-are_plain.true);
      within = omega arith;
    }
