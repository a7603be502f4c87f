-- `url_normal::fill_lower` meets its contract: a byte at a time.
use Prim.Native.Nat.{◌+◌}
use native.Mathlib.Omega.{arith}
use mathlib.Core.Path.{refl, sym, subst, ◌∙◌}
use lib.ListN.{set}
use Rattle.copying.specs.helpers.Runs.{Front}
use Rattle.copying.proofs.Runs.{front_length, front-on, front-even}
use Rattle.url_equal.specs.Meaning.{lower_all}
use Rattle.url_normal.proofs.Writer.{lower-length, lower-at}
use Rattle.url_normal.proofs.fill_lower.Goals as goal

pub loop-i-init : goal.loop-i-init
loop-i-init c = record { is = refl; within = omega arith }

pub bounds-dst-i : goal.bounds-dst-i
bounds-dst-i c =
    let s = c.args.s.now in
    omega (arith, c.requires, lower-length s, front_length (omega (arith, c.requires, lower-length s)) c.loop-i.invariant)

pub loop-i-preserved : goal.loop-i-preserved
loop-i-preserved c =
    let s = c.args.s.now in
    let l = c.loop-i in
    let w = front-on (omega (arith, c.requires, lower-length s)) l.invariant (omega (arith, lower-length s)) in
    subst (λ b. Front c.args.dst.now (lower_all s) (set l.dst l.i b) (l.i + 1)) (lower-at s l.i (omega arith) ∙ sym c.lower_case.ensures) w

pub shape_of-dst : goal.shape_of-dst
shape_of-dst c =
    front_length (omega (arith, c.requires, lower-length c.args.s.now)) c.loop-i.invariant

pub returns : goal.returns
returns c =
    let s = c.args.s.now in
    front-even (c.requires ∙ sym (lower-length s)) c.loop-i.invariant (omega (arith, lower-length s))
