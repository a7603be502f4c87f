-- "The writer gives the shortest form: 500 is `0.5`, 0 is `0`, 1000 is `1`; above 1000 is refusal 9."
use Rattle.std.specs.Prelude.{ℕ, ◌+◌, ◌/◌, ◌%◌, cond, List, [], ◌∷◌, eqb, ltb, length, take}
use Prim.Native.Char.{code}
use Rattle.grammar.specs.Reading.{Verdict}
use Rattle.octets.specs.Writing.{writing, output}
use Rattle.qvalue.specs.Grammar.{largest}

-- the last digit of a number, as a byte
abbrev pub last_digit : ℕ → ℕ
last_digit n = code "0" + n % 10

-- the form with three digits behind the point
abbrev pub full_text : ℕ → List ℕ
full_text q = last_digit (q / 1000) ∷ code "." ∷ last_digit (q / 100) ∷ last_digit (q / 10) ∷ last_digit q ∷ []

-- without the zeros at its end, and without a point there
unfoldable pub text_length : ℕ → ℕ
text_length q = cond (eqb (q % 1000) 0) 1 (cond (eqb (q % 100) 0) 3 (cond (eqb (q % 10) 0) 4 5))

unfoldable pub qvalue_text : ℕ → List ℕ
qvalue_text q = take (text_length q) (full_text q)

-- the answer in a room, and the lent output afterwards
abbrev pub qvalue_writing : ℕ → ℕ → Verdict ℕ
qvalue_writing q room = writing (ltb largest q) (qvalue_text q) room

abbrev pub qvalue_output : ℕ → List ℕ → List ℕ
qvalue_output q old = output (qvalue_writing q (length old)) (qvalue_text q) old
