-- A byte at its place, and the longest beginning of a name that a text has.
use Rattle.std.specs.Prelude.{ℕ, Bool, false, cond, List, [], ◌∷◌, ltb, eqb, length, get_or}
use Rattle.grammar.specs.helpers.Words.{larger}
use Rattle.octets.specs.helpers.Shapes.{fitting}

-- the byte b stands at the place i
abbrev pub standing : (s : List ℕ) (i b : ℕ) → Bool
standing s i b = cond (ltb i (length s)) (eqb (get_or s i 0) b) false

-- the most bytes at the front of the text that are of a name in the table
abbrev pub longest : (names text : List ℕ) → ℕ
longest [] t = 0
longest (a ∷ []) t = 0
longest (a ∷ b ∷ []) t = 0
longest (a ∷ b ∷ c ∷ names) t = larger (fitting (a ∷ b ∷ c ∷ []) t) (longest names t)
