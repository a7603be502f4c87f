-- `scans::word_at` meets its contract: the bytes passed and those that agree from there on are all that agree.
use Rattle.std.proofs.Common.{◌≡◌, ◌+◌, drop, sym, ap, ◌∙◌, arith}
use Rattle.std.proofs.lemmas.Grind.{common_steps}
use Rattle.scans.specs.helpers.Words.{agreeing}
use Rattle.scans.proofs.Case.{agreeing-word-out, agreeing-text-out}
use Rattle.scans.proofs.word_at.Goals as goal

pub returns-in_default : goal.returns-in_default
returns-in_default c =
    let x = c.args in
    let h = c.in_default.ensures.lookup in
    sym (agreeing-text-out x.word.now x.s.now 0 x.from (omega arith))

pub returns : goal.returns
returns c =
    let l = c.loop-i in
    let x = c.args in
    let text = c.in-Some.text.now in
    let h = c.in-Some.ensures.lookup in
    let e : text ≡ drop x.from x.s.now = grind (arith, common_steps) in
    let n : agreeing (drop l.i x.word.now) (drop l.i text) ≡ 0 =
    grind (arith, c.min-len.ensures, agreeing-word-out x.word.now text l.i l.i, agreeing-text-out x.word.now text l.i l.i) in
    let m : l.i + agreeing (drop l.i x.word.now) (drop l.i text) ≡ agreeing x.word.now text = l.invariant in
    let a : c.min-len.result ≡ agreeing x.word.now text = omega arith in
    a ∙ ap (agreeing x.word.now) e
