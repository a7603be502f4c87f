-- `scans::fits` meets its contract.
use Rattle.std.proofs.Common.{◌≡◌, ℕ, ◌+◌, ◌-◌, ◌*◌, ◌≤◌, Bool, true, false, leb, sym, refl, arith, le-leb, leb-false, leb-true}
use borrow.Author.Tests.{lt-leb}
use Rattle.scans.proofs.fits.Goals as goal

-- what is left of a limit holds d just where the limit holds both
left-holds : (w d limit : ℕ) → w ≤ limit → leb d (limit - w) ≡ leb (w + d) limit
left-holds w d limit h = go (leb d (limit - w)) refl
  where
    go : (x : Bool) → leb d (limit - w) ≡ x → x ≡ leb (w + d) limit
    go true e = sym (le-leb (w + d) limit (omega (arith, leb-true d (limit - w) e)))
    go false e = sym (lt-leb (w + d) limit (omega (arith, leb-false d (limit - w) e)))

pub returns-then-value-limit : goal.returns-then-value-limit
returns-then-value-limit c = let a = c.args in sym (le-leb (a.value * 10 + a.digit) a.limit (omega arith))

pub returns-then-value-limit-2 : goal.returns-then-value-limit-2
returns-then-value-limit-2 c = let a = c.args in sym (lt-leb (a.value * 10 + a.digit) a.limit (omega arith))

pub returns : goal.returns
returns c = let a = c.args in left-holds (a.value * 10) a.digit a.limit (omega arith)
