-- Digits two by two.
use Rattle.std.specs.Prelude.{List, [], ◌∷◌, ℕ, ◌+◌, ◌*◌}
use Rattle.octets.specs.Bytes.{hex_value}

-- the bytes of digits two by two; no digit is left alone, since only an even count is asked for
abbrev pub pairs : List ℕ → List ℕ
pairs [] = []
pairs (a ∷ []) = []
pairs (a ∷ b ∷ xs) = (hex_value a * 16 + hex_value b) ∷ pairs xs
