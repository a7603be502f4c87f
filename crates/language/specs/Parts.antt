-- The parts of a well-formed tag, in order; the theorems say that it has them.
use Rattle.std.specs.Prelude.{◌≡◌, List, [], ◌∷◌}
use Rattle.grammar.specs.Grammar.{Part}
use Rattle.language.specs.Grammar.{Name, primary, subtag}

abbrev pub Subtags : List (Part Name) → Type 0
Subtags [] = Unit
Subtags (a ∷ ps) = (a.label ≡ subtag) × Subtags ps

abbrev pub TagParts : List (Part Name) → Type 0
TagParts [] = ⊥
TagParts (a ∷ ps) = (a.label ≡ primary) × Subtags ps
