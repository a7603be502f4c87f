-- `numerals::put_digits` meets its contract. The digits from place i on are put.
use mathlib.Core.Path.{subst, sym}
use Prim.Native.Nat.{ℕ, ◌-◌, ◌/◌}
use lib.ListN.{set}
use Rattle.numerals.proofs.Digits.{LastDigits, last_none, last_on}
use Rattle.numerals.proofs.put_digits.Goals as goal

pub loop-i-init : goal.loop-i-init
loop-i-init c =
    let x = c.args in
    last_none x.radix x.n x.out.now

pub loop-i-preserved : goal.loop-i-preserved
loop-i-preserved c =
    let x = c.args in
    let l = c.loop-i in
    subst (λ (g : ℕ). LastDigits x.radix x.n x.out.now (set l.out (l.i - 1) g) (l.i - 1) (l.rest / x.radix))
    (sym c.glyph.ensures)
    (last_on x.radix x.n x.out.now l.out l.i l.rest c.loop-i-test.true l.invariant)
