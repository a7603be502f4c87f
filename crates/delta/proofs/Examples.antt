-- Cases of request (iii), computed; those of 8,192 bytes by the law of leading zeros.
use Prim.Native.Nat.{ℕ}
use Prim.Native.Char.{code}
use Prim.Native.String.{String}
use native.Mathlib.Omega.{arith}
use mathlib.Core.Path.{◌≡◌, refl}
use mathlib.Core.Bool.{true, false}
use mathlib.Core.List.{◌++◌}
use lib.ListN.{replicate}
use Rattle.grammar.specs.Refusals.{MALFORMED, VALUE_TOO_LONG}
use Rattle.grammar.specs.Text.{bytes}
use Rattle.grammar.specs.Reading.{Verdict, value, refused}
use Rattle.grammar.specs.helpers.Judge.{header}
use Rattle.octets.specs.Bytes.{digit?}
use Rattle.delta.specs.declared.Seconds.{Seconds}
use Rattle.delta.specs.Grammar.{rules}
use Rattle.delta.proofs.Demands.{leading_zeros}

abbrev read : String → Verdict Seconds
read s = header rules (bytes s)

abbrev exact : ℕ → Verdict Seconds
exact n = value (record { value = n; capped = false })

abbrev too_many : Verdict Seconds
too_many = value (record { value = 2147483648; capped = true })

-- both sides of the largest, with leading zeros and without
both_sides :
    (read "2147483647" ≡ exact 2147483647)
    × (read "0002147483647" ≡ exact 2147483647)
    × (read "2147483648" ≡ too_many)
    × (read "0002147483648" ≡ too_many)
    -- what would wrap to 5 in 32 and in 64 bits
    × (read "4294967301" ≡ too_many)
    × (read "18446744073709551621" ≡ too_many)
unfolding digit?
both_sides = (refl, refl, refl, refl, refl, refl)

-- many digits
many_digits :
    (header rules (replicate 1000 (code "9")) ≡ too_many)
    × (header rules (replicate 8193 (code "0")) ≡ refused VALUE_TOO_LONG 8192)
unfolding digit?
many_digits = (refl, refl)

-- leading zeros, up to the longest value
many_zeros :
    (header rules (replicate 8191 (code "0") ++ bytes "0") ≡ exact 0)
    × (header rules (replicate 8182 (code "0") ++ bytes "2147483647") ≡ exact 2147483647)
    × (header rules (replicate 8182 (code "0") ++ bytes "2147483648") ≡ too_many)
unfolding digit?
many_zeros = (
  leading_zeros 8191 (bytes "0") (record { value = 0; capped = false }) refl (omega arith),
  leading_zeros 8182 (bytes "2147483647") (record { value = 2147483647; capped = false }) refl (omega arith),
  leading_zeros 8182 (bytes "2147483648") (record { value = 2147483648; capped = true }) refl (omega arith),
)

-- refusals and their places
refused_at :
    (read "" ≡ refused MALFORMED 0)
    × (read "99999999999x" ≡ refused MALFORMED 11)
    × (read "-1" ≡ refused MALFORMED 0)
    × (read "1 " ≡ refused MALFORMED 1)
unfolding digit?
refused_at = (refl, refl, refl, refl)
