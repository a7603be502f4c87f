-- `scans::letters_end` meets its contract: from behind each block the run ends at the same place.
use Rattle.std.proofs.Common.{◌∙◌, arith}
use Rattle.std.proofs.lemmas.Grind.{common_steps}
use Rattle.octets.specs.Bytes.{token?}
use Rattle.scans.proofs.Runs.{run-end-behind}
use Rattle.scans.proofs.letters_end.Goals as goal

pub loop-i-preserved : goal.loop-i-preserved
loop-i-preserved c =
    let l = c.loop-i in
    let s = c.args.s.now in
    run-end-behind token? s l.i 32 (omega arith) (λ k h. let e = c.are_letters.ensures c.if-are_letters.true k (omega arith) in grind (arith, common_steps)) ∙ l.invariant
