-- Chunk lines of digits alone, at the front of bytes. Definitions for the contracts.
use Rattle.std.specs.Prelude.{◌≡◌, List, ◌++◌, Option, Some, None, ℕ, ◌<◌, ◌≤◌, length, take}
use Rattle.octets.specs.Bytes.{hex?}
use Rattle.framing.specs.Grammar as G
use Rattle.framing.specs.Grammar.{crlf, Many, hex_value_from, LINE_LIMIT}
use Rattle.size_lines.specs.declared.SizeLine.{SizeLine}

-- the first `at` bytes are digits of that value
pub record InDigits (bytes : List ℕ) (left at value : ℕ) : Type 0 where
  pub inside : at ≤ length bytes
  pub digits : Many hex? (take at bytes)
  pub is : hex_value_from 0 (take at bytes) ≡ value
  pub fits : value ≤ left
  pub short : at ≤ LINE_LIMIT

-- the first n bytes are a line that gives v, above zero, and CR LF
pub record PlainSize (bytes : List ℕ) (left v n : ℕ) : Type 0 where
  pub some : 0 < v
  pub fits : v ≤ left
  pub inside : n ≤ length bytes
  pub text : List ℕ
  pub split : take n bytes ≡ text ++ crlf
  pub line : G.Line text v
  pub short : length text ≤ LINE_LIMIT

abbrev pub PlainLine : List ℕ → ℕ → Option SizeLine → Type 0
PlainLine bytes left (Some l) = PlainSize bytes left l.size l.length
PlainLine bytes left None = Unit {0}
