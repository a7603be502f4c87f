-- `escapes::fill` meets its contract: what is left of the text is what is left to be put.
use Rattle.std.proofs.Common.{◌+◌, ◌≤◌, length, set, length-drop, sym, ap, subst, ◌∙◌, arith}
use Rattle.numerals.proofs.Digits.{put-fits}
use Rattle.copying.specs.helpers.Runs.{Front}
use Rattle.copying.proofs.Runs.{front-on, front-all}
use Rattle.escapes.specs.Resolved.{resolved}
use Rattle.escapes.proofs.Resolved.{first_of}
use Rattle.escapes.proofs.fill.Goals as goal

pub loop-byte-preserved : goal.loop-byte-preserved
loop-byte-preserved c =
    let l = c.loop-byte in
    let t = resolved c.args.s.now in
    let f = first_of t _ l.len c.in-Some.byte (l.invariant.3 ∙ c.in-Some.ensures.steps) in (
      tt,
      tt,
      subst (λ b. Front c.args.dst.now t (set l.dst l.len b) (l.len + 1)) f.is (front-on c.requires l.invariant.2 f.at),
      f.left,
    )

pub returns : goal.returns
returns c =
    let l = c.loop-byte in
    let t = resolved c.args.s.now in
    let e = l.invariant.3 ∙ c.in-None.ensures.steps.0 in
    let done : length t ≤ l.len = omega (arith, ap length e, length-drop l.len t) in
    record {
      counts = omega (arith, done, l.invariant.2.within);
      writes = front-all c.requires l.invariant.2 done ∙ sym (put-fits t c.args.dst.now c.requires);
    }
