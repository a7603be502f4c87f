-- The parts of a well-formed media type, in order; the theorems say that it has them.
use Rattle.std.specs.Prelude.{ℕ, ◌≡◌, List, [], ◌∷◌, ◌⊎◌, length}
use Rattle.grammar.specs.Grammar.{Part}
use Rattle.media.specs.declared.Parameter.{Parameter}
use Rattle.media.specs.Grammar.{Name, type, subtype, attribute, value, quoted_value}

-- an attribute and its value, in turn
abbrev pub InTurn : List (Part Name) → Type 0
InTurn [] = Unit
InTurn (a ∷ []) = ⊥
InTurn (a ∷ v ∷ ps) = (a.label ≡ attribute) × ((v.label ≡ value) ⊎ (v.label ≡ quoted_value)) × InTurn ps

abbrev pub MediaParts : List (Part Name) → Type 0
MediaParts [] = ⊥
MediaParts (t ∷ []) = ⊥
MediaParts (t ∷ u ∷ ps) = (t.label ≡ type) × (u.label ≡ subtype) × InTurn ps

-- starts and lengths: of parts, and of the attributes in a table
abbrev pub part_places : List (Part Name) → List (ℕ × ℕ)
part_places [] = []
part_places (c ∷ cs) = (c.start, length c.text) ∷ part_places cs

abbrev pub attribute_places : List Parameter → List (ℕ × ℕ)
attribute_places [] = []
attribute_places (p ∷ ps) = (p.start, p.length) ∷ attribute_places ps
