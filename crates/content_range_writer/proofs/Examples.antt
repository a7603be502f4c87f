-- Cases of the writer, computed.
use Prim.Native.Nat.{ℕ, zero, suc, ◌-◌, ◌/◌, ◌^◌, ◌≤◌, ◌<◌}
use native.Mathlib.Nat.{pow-suc, one-le-pow}
use native.Mathlib.Omega.{arith}
use mathlib.Core.Path.{◌≡◌, refl, ap}
use lib.ListN.{length}
use Rattle.grammar.specs.Refusals.{OUTPUT_TOO_SHORT, OUT_OF_RANGE}
use Rattle.grammar.specs.Reading.{value, refused}
use Rattle.grammar.specs.Text.{bytes}
use Rattle.octets.specs.Numbers.{length_limit}
use Rattle.numerals.specs.Numeral.{glyph, digits, width_in, width, numeral}
use Rattle.numerals.proofs.Digits.{width_some, width_large, width-below}
use Rattle.content_range_writer.specs.Writing.{content_range_text, content_range_writing, content_range_output}

-- "as `bytes 0-499/1234`": 16 bytes
document : (content_range_text 0 499 1234 ≡ bytes "bytes 0-499/1234") × (length (content_range_text 0 499 1234) ≡ 16)
unfolding numeral digits width width_in glyph
document = (refl, refl)

-- an output one byte short, one that just holds the text, and one with a byte more, which is kept
rooms :
    (content_range_writing 0 499 1234 15 ≡ refused OUTPUT_TOO_SHORT 0)
    × (content_range_output 0 499 1234 (bytes "...............") ≡ bytes "...............")
    × (content_range_writing 0 499 1234 16 ≡ value 16)
    × (content_range_output 0 499 1234 (bytes "................") ≡ bytes "bytes 0-499/1234")
    × (content_range_output 0 499 1234 (bytes ".................") ≡ bytes "bytes 0-499/1234.")
unfolding numeral digits width width_in glyph
rooms = (refl, refl, refl, refl, refl)

-- one byte: the whole of an entity, and the last of one
one_byte : (content_range_text 0 0 1 ≡ bytes "bytes 0-0/1") × (content_range_text 9 9 10 ≡ bytes "bytes 9-9/10")
unfolding numeral digits width width_in glyph
one_byte = (refl, refl)

-- "first is at most last", "last is below the length": an empty entity has no range
bounds :
    (content_range_writing 5 5 10 20 ≡ value 12)
    × (content_range_writing 6 5 10 20 ≡ refused OUT_OF_RANGE 0)
    × (content_range_writing 5 9 10 20 ≡ value 12)
    × (content_range_writing 5 10 10 20 ≡ refused OUT_OF_RANGE 0)
    × (content_range_writing 0 0 0 20 ≡ refused OUT_OF_RANGE 0)
unfolding numeral digits width width_in glyph
bounds = (refl, refl, refl, refl, refl)

-- a number from 10 ^ k on has more than k digits
width-from : (k n : ℕ) → 10 ^ k ≤ n → suc k ≤ width 10 n
width-from zero n h = width_some 10 n (omega arith)
width-from (suc k) n h =
    let more : 10 ^ k ≤ n / 10 = omega (arith, pow-suc 10 k) in
    let large : 10 ≤ n = omega (arith, pow-suc 10 k, one-le-pow k 10 (omega arith)) in
    omega (arith, width_large 10 n (omega arith) large, width-from k (n / 10) more)

-- by laws, because the definition of n's width, computed, would take n steps
in_nineteen : (n : ℕ) → 10 ^ 18 ≤ n → n < 10 ^ 19 → numeral 10 n ≡ digits 10 19 n
unfolding numeral
in_nineteen n h l = ap (λ (k : ℕ). digits 10 k n) (omega (arith, width-from 18 n h, width-below 18 n l))

nought : numeral 10 0 ≡ bytes "0"
unfolding numeral digits width width_in glyph
nought = refl

penultimate : numeral 10 9223372036854775806 ≡ bytes "9223372036854775806"
unfolding digits glyph
penultimate = in_nineteen 9223372036854775806 (omega arith) (omega arith)

largest : numeral 10 9223372036854775807 ≡ bytes "9223372036854775807"
unfolding digits glyph
largest = in_nineteen 9223372036854775807 (omega arith) (omega arith)

-- "the length at most 2^63-1"; the longest text has 65 bytes
power : length_limit ≡ 2 ^ 63 - 1
power = refl

limit :
    (content_range_text 0 9223372036854775806 9223372036854775807 ≡ bytes "bytes 0-9223372036854775806/9223372036854775807")
    × (content_range_writing 0 9223372036854775806 9223372036854775807 65 ≡ value 47)
    × (content_range_writing 9223372036854775806 9223372036854775806 9223372036854775807 65 ≡ value 65)
    × (content_range_writing 0 9223372036854775806 9223372036854775808 65 ≡ refused OUT_OF_RANGE 0)
limit = (rw (nought, penultimate, largest), rw (nought, penultimate, largest), rw (penultimate, largest), refl)

-- 9 before 8
order : content_range_writing 6 5 10 0 ≡ refused OUT_OF_RANGE 0
order = refl
