-- What the writer of chunked bodies answers, and which bytes it writes. Definitions alone.
use Rattle.std.specs.Prelude.{cond, List, [], ◌∷◌, ◌++◌, ℕ, zero, suc, ltb, eqb, length, take, drop}
use Rattle.grammar.specs.Text.{bytes}
use Rattle.grammar.specs.Refusals.{BODY_TOO_LARGE, OUTPUT_TOO_SHORT, OUT_OF_RANGE}
use Rattle.grammar.specs.Reading.{Verdict, value, refused}
use Rattle.numerals.specs.Numeral.{numeral}
use Rattle.octets.specs.Writing.{output}

-- ## The bytes

-- one chunk: "sizes in capitals without leading zeros; no extension", CR LF, the data, CR LF
unfoldable pub chunk : List ℕ → List ℕ
chunk xs = numeral 16 (length xs) ++ (bytes "\r\n" ++ (xs ++ bytes "\r\n"))

-- "the end is `0` CRLF CRLF"
abbrev pub end : List ℕ
end = bytes "0\r\n\r\n"

-- a chunk for each of these, then the end
unfoldable pub framed : List (List ℕ) → List ℕ
framed [] = end
framed (xs ∷ pieces) = chunk xs ++ framed pieces

-- "cuts off full chunks, then what remains"; the first number only bounds the steps
unfoldable pub chunks_in : ℕ → ℕ → List ℕ → List (List ℕ)
chunks_in zero n xs = []
chunks_in (suc steps) n [] = []
chunks_in (suc steps) n (b ∷ xs) = take n (b ∷ xs) ∷ chunks_in steps n (drop n (b ∷ xs))

unfoldable pub chunks_of : ℕ → List ℕ → List (List ℕ)
chunks_of n xs = chunks_in (length xs) n xs

-- the body framed in chunks of n bytes
unfoldable pub frame : List ℕ → ℕ → List ℕ
frame body n = framed (chunks_of n body)

-- ## The answer

-- "above 1,073,741,824 bytes (writer)"
abbrev pub BODY_LIMIT : ℕ
BODY_LIMIT = 1073741824

-- "Writers: 9, 7, 8", each at place 0; the room is the length of the lent output
unfoldable pub frame_writing : List ℕ → ℕ → ℕ → Verdict ℕ
frame_writing body n room =
    cond (eqb n 0) (refused OUT_OF_RANGE 0)
    (cond (ltb BODY_LIMIT (length body)) (refused BODY_TOO_LARGE 0)
    (cond (ltb room (length (frame body n))) (refused OUTPUT_TOO_SHORT 0) (value (length (frame body n)))))

-- the lent output afterwards
unfoldable pub frame_output : List ℕ → ℕ → List ℕ → List ℕ
frame_output body n old = output (frame_writing body n (length old)) (frame body n) old
