-- What the bench program prints: a line of text for each line of its input. Definitions alone.
use Rattle.std.specs.Prelude.{List, [], ◌∷◌, ◌++◌, ℕ}
use Rattle.std.proofs.Math.Option.{Option, none, some}
use Prim.Native.Char.{code}
use Rattle.grammar.specs.Text.{bytes}
use Rattle.numerals.specs.Numeral.{numeral}
use Rattle.framing.specs.declared.Whole.{Whole}
use Rattle.framing.specs.Answer.{Answer, whole, more, refused}
use Rattle.framing.specs.Reading.{decode}
use Rattle.lines.specs.Reading.{lines_of, spelled}

-- "in 16,384 bytes of room"
abbrev pub ROOM : ℕ
ROOM = 16384

-- two numbers, a blank between them, behind some bytes
abbrev pub numbers : List ℕ → ℕ → ℕ → List ℕ
numbers begin a b = begin ++ (numeral 10 a ++ (code " " ∷ (numeral 10 b ++ (code "\n" ∷ []))))

-- `C` with the bytes taken and the body's length, `M`, `R` with the refusal's number and place; "each output line ends with LF"
unfoldable pub said_answer : Answer Whole → List ℕ
said_answer (whole w) = numbers (bytes "C ") w.taken w.length
said_answer more = bytes "M\n"
said_answer (refused number place) = numbers (bytes "R ") number place

-- "A line with an odd count, another character or too many digits gives `X`"
unfoldable pub said_bytes : Option (List ℕ) → List ℕ
said_bytes none = bytes "X\n"
said_bytes (some frame) = said_answer (decode ROOM frame)

-- "Each is decoded as a chunked body in 16,384 bytes of room."
unfoldable pub said : List ℕ → List ℕ
said line = said_bytes (spelled line ROOM)

unfoldable pub all_said : List (List ℕ) → List ℕ
all_said [] = []
all_said (line ∷ lines) = said line ++ all_said lines

-- all that is printed of an input
unfoldable pub printed : List ℕ → List ℕ
printed input = all_said (lines_of input)
