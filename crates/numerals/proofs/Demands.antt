-- What a numeral is: digits of its base, the first of them not `0`, whose value is the number; in any base from 2 to 16.
use mathlib.Core.Path.{◌≡◌}
use mathlib.Core.Bool.{Bool, true}
use mathlib.Core.List.{[], ◌∷◌, ◌++◌}
use Prim.Native.Nat.{ℕ, ◌/◌, ◌%◌, ◌<◌, ◌≤◌}
use Prim.Native.Char.{code}
use lib.ListN.{length, get_or}
use Rattle.numerals.specs.Numeral.{glyph, numeral, value_from, every}
use Rattle.numerals.proofs.Digits.{numeral-small, numeral_large}
use Rattle.numerals.proofs.Made.{only_digits, not-empty, value-is, first-zero}

-- a number below the base is one digit
pub one_digit : (base n : ℕ) → n < base → numeral base n ≡ glyph n ∷ []
one_digit = numeral-small

-- any other ends with the digit of n % base, behind the numeral of n / base
pub last_digit : (base n : ℕ) → 2 ≤ base → base ≤ n → numeral base n ≡ numeral base (n / base) ++ (glyph (n % base) ∷ [])
last_digit = numeral_large

-- each byte is the glyph of a number below the base: a test that those pass, each byte of the numeral passes
pub digits_only : (p : ℕ → Bool) (base n : ℕ) → 2 ≤ base → ((d : ℕ) → d < base → p (glyph d) ≡ true) → every p (numeral base n) ≡ true
digits_only = only_digits

pub some_digit : (base n : ℕ) → 2 ≤ base → 0 < length (numeral base n)
some_digit = not-empty

-- its value is the number
pub value : (base n : ℕ) → 2 ≤ base → base ≤ 16 → value_from base 0 (numeral base n) ≡ n
value = value-is

-- no leading zeros: the first digit is `0` only where the number is 0, whose numeral is that digit
pub first_digit : (base n : ℕ) → 2 ≤ base → base ≤ 16 → get_or (numeral base n) 0 0 ≡ code "0" → n ≡ 0
first_digit = first-zero
