-- `escapes::put_resolved` meets its contract: by where the text fits; one without `%` is put as it is.
use Prim.Native.Nat.{◌-◌}
use native.Mathlib.Omega.{arith}
use borrow.Author.Tests.{leb-true, leb-false}
use mathlib.Core.Path.{sym, ap, ◌∙◌}
use lib.ListN.{length}
use Rattle.text.specs.Placing.{placed, behind}
use Rattle.text.proofs.Placing.{puts_nothing, number_fits}
use Rattle.escapes.specs.Resolved.{resolved}
use Rattle.escapes.proofs.Resolved.{no_percent}
use Rattle.escapes.proofs.put_resolved.Goals as goal
use Rattle.escapes.proofs.put_resolved.Goals.{then-at-out-via-then-at-out, then-at-out-via-else-at-out+then-not-fits}

pub returns-then-not-has_percent : goal.returns-then-not-has_percent
returns-then-not-has_percent c =
    let h = c.has_percent in
    let x = c.args in
    let e = sym (no_percent x.s.now (sym h.ensures ∙ c.if-not-has_percent.true)) in
    let p = c.put_bytes in
    record { ends = p.ensures.ends ∙ ap (behind x.out.now x.at) e; writes = p.ensures.writes ∙ ap (placed x.out.now x.at) e }

pub returns-then-at-out : goal.returns-then-at-out
returns-then-at-out c =
    let x = c.args in
    let n = length (resolved x.s.now) in
    let r = puts_nothing x.out.now x.at (resolved x.s.now) (elim c.then-at-out.branch [
      | then-at-out-via-then-at-out w ↦ omega (arith, w.if-at-out)
      | then-at-out-via-else-at-out+then-not-fits w ↦ omega (arith, leb-false n (length x.out.now - x.at) (sym w.fits.ensures ∙ w.if-not-fits.true))
    ]) in
    record { ends = r.0; writes = r.1 }

pub returns : goal.returns
returns c =
    let p = c.fill in
    let f = c.fits in
    let x = c.args in
    let h = leb-true (length (resolved x.s.now)) (length x.out.now - x.at) (sym f.ensures ∙ c.if-not-fits.false) in
    let r = number_fits x.out.now p.new.dst x.at p.result (resolved x.s.now) (omega arith) p.ensures.counts p.ensures.writes (omega (arith, h, p.ensures.counts)) in
    record { ends = r.0; writes = r.1 }
