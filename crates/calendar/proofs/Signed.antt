-- Signed seconds, and the seconds from the first day of the range on.
use Prim.Native.Nat.{ℕ, suc, ◌+◌, ◌-◌, ◌≤◌, ◌<◌}
use native.Mathlib.Omega.{arith}
use borrow.Author.Tests.{leb-true, ltb-true, ltb-false, le-leb, lt-ltb, le-ltb}
use mathlib.Core.Path.{◌≡◌, refl, ap}
use mathlib.Core.Bool.{Bool, true, false, cond, ◌&&◌}
use lib.Dec.{leb, ltb}
use lib.IntN.{ℤ, pos, negsuc}
use Rattle.calendar.specs.Instants.{in_range?, since_first, since_epoch}

and_left : (a b : Bool) → a && b ≡ true → a ≡ true
and_left true b e = refl
and_left false b e = e

pub late : (n : ℕ) → in_range? (pos n) ≡ true → n ≤ 253402300799
late n e = leb-true n 253402300799 e

pub early : (n : ℕ) → in_range? (negsuc n) ≡ true → n ≤ 12212553599
early n e = leb-true n 12212553599 (and_left (leb n 12212553599) true e)

pub since_first-small : (s : ℤ) → in_range? s ≡ true → since_first s < 265614854400
since_first-small (pos n) e = omega (arith, late n e)
since_first-small (negsuc n) e = omega arith

pub since_first-back : (s : ℤ) → in_range? s ≡ true → since_epoch (since_first s) ≡ s
since_first-back (pos n) e =
    let k : 12212553600 + n - 12212553600 ≡ n = omega arith in
    rw (le-ltb (12212553600 + n) 12212553600 (omega arith)) (ap pos k)
since_first-back (negsuc n) e =
    let h = early n e in
    let k : 12212553600 - suc (12212553600 - suc n) ≡ n = omega arith in
    rw (lt-ltb (12212553600 - suc n) 12212553600 (omega arith)) (ap negsuc k)

pub since_epoch-back : (n : ℕ) → n < 265614854400 → (in_range? (since_epoch n) ≡ true) × (since_first (since_epoch n) ≡ n)
since_epoch-back n h = go (ltb n 12212553600) refl
  where
    go : (t : Bool) → ltb n 12212553600 ≡ t
        → (in_range? (cond t (negsuc (12212553600 - suc n)) (pos (n - 12212553600))) ≡ true) × (since_first (cond t (negsuc (12212553600 - suc n)) (pos (n - 12212553600))) ≡ n)
    go true e =
        let k = ltb-true n 12212553600 e in
        (rw (le-leb (12212553600 - suc n) 12212553599 (omega arith)), omega arith)
    go false e =
        let k = ltb-false n 12212553600 e in
        (le-leb (n - 12212553600) 253402300799 (omega arith), omega arith)
