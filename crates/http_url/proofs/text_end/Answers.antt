-- `http_url::text_end` meets its contract: what was passed is a stretch.
use Rattle.std.proofs.Common.{◌≡◌, ◌+◌, get_or, sym, ◌∙◌, subst, arith}
use Rattle.http_url.specs.helpers.Scan.{Hexes, empty, character, escape}
use Rattle.http_url.proofs.text_end.Goals as goal

pub loop-i-init : goal.loop-i-init
loop-i-init c = (c.requires, λ p b. empty)

pub loop-i-preserved-then-in_class : goal.loop-i-preserved-then-in_class
loop-i-preserved-then-in_class c =
    let l = c.loop-i in
    let at = c.loop-i-test.true in
    let s = c.args.s.now in (
      omega arith,
      λ p b. character (l.invariant.1 p b) at
          (sym (b (get_or s l.i 0) (omega (arith, c.type_inv.s l.i))) ∙ sym c.in_class.ensures ∙ c.if-in_class.true),
    )

pub loop-i-preserved : goal.loop-i-preserved
loop-i-preserved c =
    let l = c.loop-i in
    let w = c.hex_digits-digits.ensures in
    let two : c.hex_digits-digits.result ≡ 2 = omega (arith, w.few, c.if-digits-lt2.false) in
    let h : Hexes c.args.s.now (l.i + 1) 2 = subst (Hexes c.args.s.now (l.i + 1)) two w in
    (omega (arith, h.within), λ p b. escape (l.invariant.1 p b) c.loop-i-test.true c.if-b-eq37.true h)
