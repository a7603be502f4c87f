-- `products::read` meets its contract: at each turn of its loop an item must stand at `at`, and what was found before it is counted.
use Prim.Native.Nat.{ℕ}
use native.Mathlib.Omega.{arith}
use mathlib.Core.Path.{sym, subst}
use Rattle.octets.specs.Bytes.{blank?}
use Rattle.octets.proofs.Tables.{blank-bits}
use Rattle.products.specs.helpers.Scan.{Found}
use Rattle.products.proofs.read.Goals as goal

pub loop-item-smaller : goal.loop-item-smaller
loop-item-smaller c =
    omega (arith, c.in_ok-item.ensures.forward, c.class_end-at.ensures blank? blank-bits, c.if-s-item.false)

pub loop-item-preserved : goal.loop-item-preserved
loop-item-preserved c =
    let s = c.args.s.now in
    subst (λ (m : ℕ). Found s m c.in_ok-item.item.found) (sym (c.class_end-at.ensures blank? blank-bits)) (c.in_ok-item.ensures.goes_on c.if-s-item.false)
