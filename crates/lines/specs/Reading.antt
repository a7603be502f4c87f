-- Lines taken from pieces of an input, and their bytes: definitions that compute.
use Rattle.std.specs.Prelude.{◌&&◌, cond, List, [], ◌∷◌, ◌++◌, ℕ, suc, ◌+◌, ◌*◌, eqb, ltb, length, take, drop}
use Rattle.std.specs.Prelude as P
use Rattle.std.specs.Prelude.{Some, None}
use Rattle.std.proofs.Math.Option.{Option, none, some}
use Prim.Native.Char.{code}
use Rattle.octets.specs.Bytes.{hex?, hex_value}
use Rattle.lines.specs.Grammar.{DIGIT_LIMIT}
use Rattle.lines.specs.declared.Gathered.{Gathered}

-- ## Lines

-- the place of the first LF, or the length
unfoldable pub line_end : List ℕ → ℕ
line_end [] = 0
line_end (b ∷ xs) = cond (eqb b (code "\n")) 0 (suc (line_end xs))

-- the lines that end in these bytes; the first begins with what is begun
unfoldable pub lines_from : List ℕ → List ℕ → List (List ℕ)
lines_from begun [] = []
lines_from begun (b ∷ xs) = cond (eqb b (code "\n")) (begun ∷ lines_from [] xs) (lines_from (begun ++ (b ∷ [])) xs)

-- what is begun behind them
unfoldable pub rest_from : List ℕ → List ℕ → List ℕ
rest_from begun [] = begun
rest_from begun (b ∷ xs) = cond (eqb b (code "\n")) (rest_from [] xs) (rest_from (begun ++ (b ∷ [])) xs)

-- the line that the end of input ends, if it has a byte
abbrev pub last_line : List ℕ → List (List ℕ)
last_line [] = []
last_line (b ∷ xs) = (b ∷ xs) ∷ []

-- all lines of an input
unfoldable pub lines_of : List ℕ → List (List ℕ)
lines_of xs = lines_from [] xs ++ last_line (rest_from [] xs)

-- ## A line gathered from pieces
-- what a buffer has of a line: its first bytes, as many as fit. `held` of them are there; the piece goes on with them up to its LF.
unfoldable pub line_with : List ℕ → ℕ → List ℕ → List ℕ
line_with line held piece = take (length line) (take held line ++ take (line_end piece) piece)

-- the buffer afterwards: that line at its front, the rest as it was
abbrev pub gathered_line : List ℕ → ℕ → List ℕ → List ℕ
gathered_line line held piece = line_with line held piece ++ drop (length (line_with line held piece)) line

-- the piece's bytes that belong to the line, its LF included
unfoldable pub gathering : List ℕ → ℕ → List ℕ → Gathered
gathering line held piece = record {
  taken = cond (ltb (line_end piece) (length piece)) (line_end piece + 1) (line_end piece);
  held = length (line_with line held piece);
  ended = ltb (line_end piece) (length piece);
}

-- ## Bytes

-- one byte more in front
abbrev pub byte_before : ℕ → Option (List ℕ) → Option (List ℕ)
byte_before b none = none
byte_before b (some ys) = some (b ∷ ys)

-- the bytes that digits spell; none where the count is odd or another character stands there
unfoldable pub bytes_of : List ℕ → Option (List ℕ)
bytes_of [] = some []
bytes_of (a ∷ []) = none
bytes_of (a ∷ b ∷ xs) = cond (hex? a && hex? b) (byte_before (hex_value a * 16 + hex_value b) (bytes_of xs)) none

-- none where they have no room
abbrev pub within_room : ℕ → Option (List ℕ) → Option (List ℕ)
within_room room none = none
within_room room (some ys) = cond (ltb room (length ys)) none (some ys)

-- the bytes of a line in a room of so many bytes; none for a bad line: "an odd count, another character or too many digits", or no room
unfoldable pub spelled : List ℕ → ℕ → Option (List ℕ)
spelled xs room = cond (ltb DIGIT_LIMIT (length xs)) none (within_room room (bytes_of xs))

-- the answer: how many bytes, or none for a bad line
abbrev pub hex_answer : Option (List ℕ) → P.Option ℕ
hex_answer none = None
hex_answer (some ys) = Some (length ys)

-- the lent bytes afterwards: those of the line at the front, or all as they were
abbrev pub hex_output : Option (List ℕ) → List ℕ → List ℕ
hex_output none old = old
hex_output (some ys) old = ys ++ drop (length ys) old
