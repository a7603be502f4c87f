-- Cases of request (iv), computed.
use Prim.Native.Nat.{ℕ}
use Prim.Native.Char.{code}
use Prim.Native.String.{String}
use mathlib.Core.Path.{◌≡◌, refl}
use mathlib.Core.List.{List, [], ◌∷◌}
use lib.ListN.{length, replicate}
use Rattle.grammar.specs.Grammar.{lower}
use Rattle.grammar.specs.Refusals.{MALFORMED, OUT_OF_RANGE, TOO_MANY_PARAMETERS, VALUE_TOO_LONG}
use Rattle.grammar.specs.Text.{bytes}
use Rattle.grammar.specs.Reading.{Verdict, value, refused}
use Rattle.octets.specs.Bytes.{digit?, blank?}
use Rattle.ranges.specs.declared.Range.{Range}
use Rattle.ranges.specs.Meaning.{Ranges, satisfiable, unsatisfiable}
use Rattle.ranges.specs.Reading.{reading}

-- in an entity of 10,000 bytes
abbrev read : String → Verdict Ranges
read s = reading 10000 (bytes s)

abbrev to : ℕ → ℕ → Range
to first last = record { first = first; last = last }

abbrev these : List Range → Verdict Ranges
these rs = value (satisfiable (length rs) rs)

-- the three kinds of elements; "The order sent is kept"
resolves :
    (read "bytes=0-499" ≡ these (to 0 499 ∷ []))
    × (read "bytes=-500" ≡ these (to 9500 9999 ∷ []))
    × (read "bytes=9500-" ≡ these (to 9500 9999 ∷ []))
    × (read "bytes=0-0,-1" ≡ these (to 0 0 ∷ to 9999 9999 ∷ []))
    × (read "bytes=500-600,601-999" ≡ these (to 500 600 ∷ to 601 999 ∷ []))
    × (read "bytes=500-700,601-999" ≡ these (to 500 700 ∷ to 601 999 ∷ []))
    × (read "bytes=9999-10000,3-4" ≡ these (to 9999 9999 ∷ to 3 4 ∷ []))
    × (read "bytes=-20000" ≡ these (to 0 9999 ∷ []))
    × (read "bytes=10000-,-0,7-7" ≡ these (to 7 7 ∷ []))
unfolding lower digit? blank?
resolves = (refl, refl, refl, refl, refl, refl, refl, refl, refl)

-- "none left is "unsatisfiable""
none_left :
    (read "bytes=20000-" ≡ value unsatisfiable)
    × (read "bytes=-0" ≡ value unsatisfiable)
    × (reading 0 (bytes "bytes=0-") ≡ value unsatisfiable)
    × (reading 0 (bytes "bytes=0-0,-1") ≡ value unsatisfiable)
unfolding lower digit? blank?
none_left = (refl, refl, refl, refl)

-- "`bytes` is read in any case, blanks may stand only around commas, and an empty element is malformed (house rule)."
forms :
    (read "BYTES=0-" ≡ these (to 0 9999 ∷ []))
    × (read "bytes=1-2 , 3-4" ≡ these (to 1 2 ∷ to 3 4 ∷ []))
    × (read "bytes=1-2\t,\t \t3-,-4" ≡ these (to 1 2 ∷ to 3 9999 ∷ to 9996 9999 ∷ []))
    × (read "bytes=007-0010" ≡ these (to 7 10 ∷ []))
unfolding lower digit? blank?
forms = (refl, refl, refl, refl)

malformed :
    (read "" ≡ refused MALFORMED 0)
    × (read "bytes" ≡ refused MALFORMED 5)
    × (read "bytes=" ≡ refused MALFORMED 6)
    × (read "bytes= 1-2" ≡ refused MALFORMED 6)
    × (read "bytes=1-2," ≡ refused MALFORMED 10)
    × (read "bytes=1-2, " ≡ refused MALFORMED 11)
    × (read "bytes=1-2 " ≡ refused MALFORMED 10)
    × (read "bytes=,1-2" ≡ refused MALFORMED 6)
    × (read "bytes=1-2,,3-4" ≡ refused MALFORMED 10)
    × (read "bytes=-" ≡ refused MALFORMED 7)
    × (read "bytes=-,1-2" ≡ refused MALFORMED 7)
    × (read "bytes=1" ≡ refused MALFORMED 7)
    × (read "bytes=1 -2" ≡ refused MALFORMED 7)
    × (read "bytes=1- 2" ≡ refused MALFORMED 9)
    × (read "bytes=--1" ≡ refused MALFORMED 7)
    × (read "bytes=1--2" ≡ refused MALFORMED 8)
unfolding lower digit? blank?
malformed = (refl, refl, refl, refl, refl, refl, refl, refl, refl, refl, refl, refl, refl, refl, refl, refl)

-- "A last below its first, once its digits end, is malformed at its last digit, whatever follows."
backward :
    (read "bytes=5-3" ≡ refused MALFORMED 8)
    × (read "bytes=5-3x" ≡ refused MALFORMED 8)
    × (read "bytes=5-3," ≡ refused MALFORMED 8)
    × (read "bytes=5-3 " ≡ refused MALFORMED 8)
    × (read "bytes=5-30" ≡ these (to 5 30 ∷ []))
    × (read "bytes=500-30" ≡ refused MALFORMED 11)
    × (read "bytes=1-2,5-3,x" ≡ refused MALFORMED 12)
    × (reading 0 (bytes "bytes=5-3") ≡ refused MALFORMED 8)
unfolding lower digit? blank?
backward = (refl, refl, refl, refl, refl, refl, refl, refl)

-- "Numbers above 2^63-1 are capped to it before first and last are compared."
capped :
    (read "bytes=99999999999999999999-99999999999999999998" ≡ value unsatisfiable)
    × (read "bytes=9223372036854775807-9223372036854775806" ≡ refused MALFORMED 44)
    × (read "bytes=9223372036854775808-9223372036854775807" ≡ value unsatisfiable)
    × (reading 9223372036854775807 (bytes "bytes=9223372036854775806-18446744073709551616,-18446744073709551616")
    ≡ these (to 9223372036854775806 9223372036854775806 ∷ to 0 9223372036854775806 ∷ []))
unfolding lower digit? blank?
capped = (refl, refl, refl, refl)

-- "up to 16 (a seventeenth is refusal 10 at its first byte)"
seventeenth :
    (read "bytes=0-,1-,2-,3-,4-,5-,6-,7-,8-,9-,0-,1-,2-,3-,4-,5-,-1" ≡ refused TOO_MANY_PARAMETERS 54)
    × (read "bytes=0-,1-,2-,3-,4-,5-,6-,7-,8-,9-,0-,1-,2-,3-,4-,5- , 5-3" ≡ refused TOO_MANY_PARAMETERS 56)
    × (read "bytes=0-,1-,2-,3-,4-,5-,6-,7-,8-,9-,0-,1-,2-,3-,4-,5-,x" ≡ refused MALFORMED 54)
    × (read "bytes=0-,1-,2-,3-,4-,5-,6-,7-,8-,9-,0-,1-,2-,3-,4-,5-3,5-" ≡ refused MALFORMED 53)
    × (reading 1 (bytes "bytes=0-,1-,2-,3-,4-,5-,6-,7-,8-,9-,0-,1-,2-,3-,4-,5-") ≡ these (to 0 0 ∷ to 0 0 ∷ []))
unfolding lower digit? blank?
seventeenth = (refl, refl, refl, refl, refl)

-- "An entity length above it is refusal 9, first of all."
length-first :
    (reading 9223372036854775808 (bytes "bytes=5-3") ≡ refused OUT_OF_RANGE 0)
    × (reading 9223372036854775808 (replicate 8193 (code "0")) ≡ refused OUT_OF_RANGE 0)
    × (reading 9223372036854775807 (replicate 8193 (code "0")) ≡ refused VALUE_TOO_LONG 8192)
    × (reading 9223372036854775807 (bytes "bytes=0-") ≡ these (to 0 9223372036854775806 ∷ []))
unfolding lower digit? blank?
length-first = (refl, refl, refl, refl)
