-- Parts are pieces of the text, at their places.
use Rattle.std.specs.Prelude.{ℕ, ◌≡◌, List, [], ◌∷◌, ◌++◌}
use Rattle.grammar.specs.Grammar.{Part, past}

module _ {L : Type 0} (i : ℕ) (s : List ℕ) where
  -- c stands in s, which stands at the place i
  abbrev pub Slice : Part L → Type 0
  Slice c = (x : List ℕ) × (z : List ℕ) × (s ≡ x ++ (c.text ++ z)) × (c.start ≡ past i x)

  abbrev pub Slices : List (Part L) → Type 0
  Slices [] = Unit {0}
  Slices (c ∷ ps) = Slice c × Slices ps
