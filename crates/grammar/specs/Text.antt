-- Byte strings written as text.
use Rattle.std.specs.Prelude.{ℕ, List, [], ◌∷◌, ◌++◌}
use Prim.Native.Char.{code}
use Prim.Native.String.{String, [] as ε, ◌∷◌ as ◌◁◌}

-- the bytes of a text of ASCII characters
abbrev pub bytes : String → List ℕ
bytes ε = []
bytes (c ◁ s) = code c ∷ bytes s

-- lists of bytes, one behind the other
unfoldable pub joined : List (List ℕ) → List ℕ
joined [] = []
joined (xs ∷ pieces) = xs ++ joined pieces
