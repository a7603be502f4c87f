-- `scans::quoted_end` meets its contract: from behind each run of text and each pair, the text and pairs stop at the same place.
use Rattle.std.proofs.Common.{◌≡◌, ℕ, ◌+◌, ◌<◌, ◌≤◌, List, length, get_or, sym, ◌∙◌, arith}
use Rattle.octets.specs.Bytes.{text?}
use Rattle.scans.specs.helpers.Runs.{run_end}
use Rattle.scans.specs.helpers.Quoted.{quoted_end}
use Rattle.scans.proofs.QuotedSteps.{behind-text, quoted_out, quoted_stop, pair-cut_off, pair_bad, pair-good}
use Rattle.scans.proofs.quoted_end.Goals as goal
use Rattle.scans.proofs.quoted_end.Goals.{then-end-s-2-via-then-end-s-2, then-end-s-2-via-else-end-s-2+then-not-is_escaped}

-- behind a run of text that was passed
as_before : (s : List ℕ) (from i end : ℕ) → end ≡ run_end text? s i → quoted_end s i ≡ quoted_end s from → quoted_end s end ≡ quoted_end s from
as_before s from i end e h = (behind-text s i end e).1 ∙ h

pub returns-then-end-s : goal.returns-then-end-s
returns-then-end-s c =
    let s = c.args.s.now in
    let end = c.text_end-end.result in
    let i = c.loop-from.i in
    let e = c.text_end-end.ensures in
    let out : length s ≤ end → quoted_end s end ≡ end = quoted_out s end in
    let stop : end < length s → (get_or s end 0 ≡ 92 → ⊥) → quoted_end s end ≡ end =
    λ h. quoted_stop s end h ((behind-text s i end e).0 h) in
    let here : quoted_end s end ≡ end = grind (arith, out, stop) in
    sym here ∙ as_before s c.args.from i end e c.loop-from.invariant

pub returns-then-end-s-2 : goal.returns-then-end-s-2
returns-then-end-s-2 c =
    let s = c.args.s.now in
    let end = c.text_end-end.result in
    let here : quoted_end s end ≡ end + 1 = elim c.then-end-s-2.branch [
      | then-end-s-2-via-then-end-s-2 w ↦ pair-cut_off s end (omega arith) (omega arith) w.if-end-s-2.true
      | then-end-s-2-via-else-end-s-2+then-not-is_escaped w ↦
          pair_bad s end (omega arith) w.if-end-s-2.false (sym w.is_escaped.ensures ∙ w.if-not-is_escaped.true)
    ] in
    sym here ∙ as_before s c.args.from c.loop-from.i end c.text_end-end.ensures c.loop-from.invariant

pub loop-from-preserved : goal.loop-from-preserved
loop-from-preserved c =
    let s = c.args.s.now in
    let end = c.text_end-end.result in
    let e = sym c.is_escaped.ensures ∙ c.if-not-is_escaped.false in
    pair-good s end (omega arith) (omega arith) e
    ∙ as_before s c.args.from c.loop-from.i end c.text_end-end.ensures c.loop-from.invariant
