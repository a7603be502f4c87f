-- "Written in capitals without leading zeros; a number above 65,535 given to the writer is refusal 9."
use Rattle.std.specs.Prelude.{ℕ, Bool, ◌||◌, List, ◌∷◌, ◌++◌, ltb, length}
use Prim.Native.Char.{code}
use Rattle.grammar.specs.Reading.{Verdict}
use Rattle.grammar.specs.Text.{bytes}
use Rattle.numerals.specs.Numeral.{numeral}
use Rattle.octets.specs.Writing.{output, writing}

abbrev pub http : List ℕ
http = bytes "HTTP/"

abbrev pub numbers_text : (major minor : ℕ) → List ℕ
numbers_text major minor = http ++ (numeral 10 major ++ (code "." ∷ numeral 10 minor))

abbrev pub largest : ℕ
largest = 65535

abbrev pub numbers_too_large : (major minor : ℕ) → Bool
numbers_too_large major minor = ltb largest major || ltb largest minor

-- the answer in a room, and the lent output afterwards
abbrev pub numbers_writing : (major minor : ℕ) → ℕ → Verdict ℕ
numbers_writing major minor room = writing (numbers_too_large major minor) (numbers_text major minor) room

abbrev pub numbers_output : (major minor : ℕ) → List ℕ → List ℕ
numbers_output major minor old = output (numbers_writing major minor (length old)) (numbers_text major minor) old
