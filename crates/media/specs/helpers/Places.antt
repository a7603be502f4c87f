-- For the contracts of the helpers that compare names at their places.
use Rattle.std.specs.Prelude.{ℕ, List, [], ◌∷◌}
use Rattle.media.specs.declared.Parameter.{Parameter}
use Rattle.media.specs.Grammar.{part_at}

module _ (s : List ℕ) where
  abbrev pub names_at : List Parameter → List (List ℕ)
  names_at [] = []
  names_at (p ∷ ps) = part_at s p.start p.length ∷ names_at ps
