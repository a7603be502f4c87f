-- The words quoted are those of request (iv) of document 02: "Also write the `Content-Range` value for one range, as `bytes 0-499/1234`,
-- which demand 2's reading back leaves out: refusal 9 unless first is at most last, last is below the length and the length at most 2^63-1,
-- then 8 for a short output."
use Rattle.std.specs.Prelude.{ℕ, ◌≤◌, ◌<◌, Bool, not, ◌&&◌, List, ◌++◌, ltb, leb, length}
use Rattle.grammar.specs.Reading.{Verdict}
use Rattle.grammar.specs.Text.{bytes}
use Rattle.numerals.specs.Numeral.{numeral}
use Rattle.octets.specs.Numbers.{length_limit}
use Rattle.octets.specs.Writing.{output, writing}

-- "as `bytes 0-499/1234`"
abbrev pub content_range_text : (first last entity_length : ℕ) → List ℕ
content_range_text first last entity_length =
    bytes "bytes " ++ numeral 10 first ++ bytes "-" ++ numeral 10 last ++ bytes "/" ++ numeral 10 entity_length

-- "first is at most last, last is below the length and the length at most 2^63-1"
abbrev pub InRange : (first last entity_length : ℕ) → Type 0
InRange first last entity_length = (first ≤ last) × (last < entity_length) × (entity_length ≤ length_limit)

-- the test that this does not hold: `nine_exactly` ties the two
abbrev pub out_of_range : (first last entity_length : ℕ) → Bool
out_of_range first last entity_length = not (leb first last && ltb last entity_length && leb entity_length length_limit)

-- the answer in a room, and the lent output afterwards
abbrev pub content_range_writing : (first last entity_length : ℕ) → ℕ → Verdict ℕ
content_range_writing first last entity_length room =
    writing (out_of_range first last entity_length) (content_range_text first last entity_length) room

abbrev pub content_range_output : (first last entity_length : ℕ) → List ℕ → List ℕ
content_range_output first last entity_length old =
    output (content_range_writing first last entity_length (length old)) (content_range_text first last entity_length) old
