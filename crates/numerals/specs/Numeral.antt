-- Numbers as text, in a base from 2 to 16: the fewest digits, in capitals. Definitions alone.
use Rattle.std.specs.Prelude.{ℕ, zero, suc, ◌+◌, ◌-◌, ◌*◌, ◌/◌, ◌%◌, Bool, true, cond, ◌&&◌, List, [], ◌∷◌, ◌++◌, ltb, leb, length, drop}
use Prim.Native.Char.{code}
use Rattle.octets.specs.Bytes.{hex_value}
use Rattle.numerals.specs.declared.Base.{Base}
use Rattle.numerals.specs.declared.Base.TheVariants.{Decimal, Hex}

-- the number of digits of a base
abbrev pub radix : Base → ℕ
radix Decimal = 10
radix Hex = 16

-- the byte of a digit: `0` to `9`, then `A` to `F`
unfoldable pub glyph : ℕ → ℕ
glyph d = cond (ltb d 10) (code "0" + d) (code "A" + (d - 10))

-- the last k digits of n, the first digit foremost
unfoldable pub digits : ℕ → ℕ → ℕ → List ℕ
digits base zero n = []
digits base (suc k) n = digits base k (n / base) ++ (glyph (n % base) ∷ [])

-- how many digits n has: one below the base, otherwise one more than n / base has; the first number only bounds the steps
unfoldable pub width_in : ℕ → ℕ → ℕ → ℕ
width_in zero base n = 1
width_in (suc steps) base n = cond (ltb n base) 1 (suc (width_in steps base (n / base)))

unfoldable pub width : ℕ → ℕ → ℕ
width base n = width_in n base n

-- n without leading zeros
unfoldable pub numeral : ℕ → ℕ → List ℕ
numeral base n = digits base (width base n) n

-- the lent bytes once xs is put at their front: where it does not fit, they stay as they are
unfoldable pub put : List ℕ → List ℕ → List ℕ
put xs old = cond (leb (length xs) (length old)) (xs ++ drop (length xs) old) old

-- the number that digits go on to from v, the first digit foremost
abbrev pub value_from : ℕ → ℕ → List ℕ → ℕ
value_from base v [] = v
value_from base v (b ∷ xs) = value_from base (v * base + hex_value b) xs

-- each byte passes the test
abbrev pub every : (ℕ → Bool) → List ℕ → Bool
every p [] = true
every p (b ∷ xs) = p b && every p xs
