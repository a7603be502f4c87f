-- A number as it is read: the one decimal reading, with the largest length as its limit and as its cap.
use Prim.Native.Nat.{ℕ}
use mathlib.Core.Path.{◌≡◌, sym, ap, ◌∙◌}
use mathlib.Core.Bool.{true, false}
use mathlib.Core.List.{List}
use mathlib.Core.Option.{some}
use Rattle.octets.specs.Bytes.{digit?}
use Rattle.octets.specs.Numbers.{Capped, length_limit}
use Rattle.scans.specs.declared.Decimal.{Decimal}
use Rattle.scans.specs.declared.Decimal.TheVariants as D
use Rattle.scans.specs.helpers.Decimals.{decimal_at, with_cap, capped_at}
use Rattle.scans.specs.helpers.Runs.{run_end}
use Rattle.scans.proofs.Caps.{caps, capped-of}
use Rattle.scans.proofs.Scans.{missing_of}
use Rattle.ranges.specs.helpers.Scan.{DigitsAt}

module _ (s : List ℕ) (i : ℕ) where
  told : (d : Decimal) → decimal_at length_limit s i ≡ d → capped_at length_limit length_limit s i ≡ with_cap length_limit d
  told d e = sym (caps length_limit length_limit s i) ∙ ap (with_cap length_limit) e

  found : (c : Capped) (e : ℕ) → capped_at length_limit length_limit s i ≡ some (c, e) → DigitsAt s i c.value e
  found c e d =
      let w = capped-of length_limit length_limit s i c e d in
      record { some = w.some; ends = w.end; is = ap (λ (x : Capped). x.value) w.is }

  pub within : (v e : ℕ) → decimal_at length_limit s i ≡ D.Number v e → DigitsAt s i v e
  within v e d = found (record { value = v; capped = false }) e (told (D.Number v e) d)

  pub beyond : (p e : ℕ) → decimal_at length_limit s i ≡ D.Above p e → DigitsAt s i length_limit e
  beyond p e d = found (record { value = length_limit; capped = true }) e (told (D.Above p e) d)

  pub none : decimal_at length_limit s i ≡ D.Missing → run_end digit? s i ≡ i
  none d = missing_of length_limit s i d
