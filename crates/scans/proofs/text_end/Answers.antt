-- `scans::text_end` meets its contract: from each place passed the text ends at the same place.
use Rattle.std.proofs.Common.{◌≡◌, true, get_or, ◌∙◌, arith}
use Rattle.octets.specs.Bytes.{text?}
use Rattle.scans.proofs.Runs.{run-end-next}
use Rattle.scans.proofs.Texts.{visible_text}
use Rattle.scans.proofs.text_end.Goals as goal

pub loop-i-preserved : goal.loop-i-preserved
loop-i-preserved c =
    let l = c.loop-i in
    let s = c.args.s.now in
    let b = get_or s l.i 0 in
    let is : text? b ≡ true = grind (arith, visible_text) in
    run-end-next text? s l.i c.loop-i-test.true is ∙ l.invariant
