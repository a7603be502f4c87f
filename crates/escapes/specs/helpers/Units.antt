-- For the contracts of helpers.
use Rattle.std.specs.Prelude.{ℕ, Bool, false, ◌||◌, List, [], ◌∷◌, eqb}
use Prim.Native.Char.{code}

-- a `%` stands in the text
abbrev pub percent? : List ℕ → Bool
percent? [] = false
percent? (b ∷ s) = eqb b (code "%") || percent? s
