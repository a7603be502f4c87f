-- Decimal numbers at the limits and caps of those who read them, computed.
use Rattle.std.proofs.Common.{◌≡◌, ℕ, true, false, refl}
use mathlib.Core.Option.{none, some}
use Rattle.grammar.specs.Text.{bytes}
use Rattle.octets.specs.Bytes.{digit?}
use Rattle.scans.specs.declared.Decimal.TheVariants.{Number, Above, Missing}
use Rattle.scans.specs.helpers.Decimals.{decimal_at, capped_at}

-- versions and ports: the digit that passes the limit, and the place behind the digits
under_a-limit :
    (decimal_at 65535 (bytes "HTTP/65535.0") 5 ≡ Number 65535 10)
    × (decimal_at 65535 (bytes "HTTP/65536.0") 5 ≡ Above 9 10)
    × (decimal_at 65535 (bytes "HTTP/000655360.0") 5 ≡ Above 12 14)
    × (decimal_at 65535 (bytes "HTTP/.0") 5 ≡ Missing)
unfolding decimal_at digit?
under_a-limit = (refl, refl, refl, refl)

abbrev most : ℕ
most = 9223372036854775807

-- byte ranges: 2^63 - 1 is both limit and cap
under_a-cap :
    (capped_at most most (bytes "9223372036854775807-") 0 ≡ some (record { value = most; capped = false }, 19))
    × (capped_at most most (bytes "9223372036854775808-") 0 ≡ some (record { value = most; capped = true }, 19))
    × (capped_at most most (bytes "00018446744073709551621") 0 ≡ some (record { value = most; capped = true }, 23))
    × (capped_at most most (bytes "-500") 0 ≡ none)
    × (capped_at most most (bytes "-500") 1 ≡ some (record { value = 500; capped = false }, 4))
unfolding digit?
under_a-cap = (refl, refl, refl, refl, refl)
