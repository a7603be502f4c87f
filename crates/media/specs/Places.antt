-- The parts that reading gives, within the text.
use Rattle.std.specs.Prelude.{ℕ, ◌+◌, ◌≤◌, List, [], ◌∷◌, length}
use Rattle.media.specs.declared.MediaType.{MediaType}
use Rattle.media.specs.declared.Parameter.{Parameter}

module _ (s : List ℕ) where
  -- the parts stand within s
  pub record PlacedParameter (p : Parameter) : Type 0 where
    pub name_within : p.start + p.length ≤ length s
    pub value_within : p.value_start + p.value_length ≤ length s

  abbrev pub Placed : List Parameter → Type 0
  Placed [] = Unit
  Placed (p ∷ ps) = PlacedParameter p × Placed ps

  pub record NamesWithin (m : MediaType) : Type 0 where
    pub type_within : m.type_start + m.type_length ≤ length s
    pub subtype_within : m.subtype_start + m.subtype_length ≤ length s
