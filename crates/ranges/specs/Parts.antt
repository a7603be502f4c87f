-- The parts of a well-formed set, in order; the theorems say that it has them.
use Rattle.std.specs.Prelude.{◌≡◌, List, [], ◌∷◌, ◌⊎◌}
use Rattle.grammar.specs.Grammar.{Part}
use Rattle.ranges.specs.Grammar.{Name, first, last, sign, suffix}

abbrev pub ElementParts : Part Name → Part Name → Type 0
ElementParts a b = ((a.label ≡ first) × (b.label ≡ last)) ⊎ ((a.label ≡ sign) × (b.label ≡ suffix))

-- two parts for each element
abbrev pub InTurn : List (Part Name) → Type 0
InTurn [] = Unit
InTurn (a ∷ []) = ⊥
InTurn (a ∷ b ∷ ps) = ElementParts a b × InTurn ps
