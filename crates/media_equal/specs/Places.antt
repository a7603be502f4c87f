-- What a media type means, by the places that reading gives.
use Rattle.std.specs.Prelude.{ℕ, ◌≡◌, List, [], ◌∷◌, length}
use Rattle.grammar.specs.Reading.{value}
use Rattle.grammar.specs.helpers.Judge.{header}
use Rattle.media.specs.declared.MediaType.{MediaType}
use Rattle.media.specs.declared.Parameter.{Parameter}
use Rattle.media.specs.Grammar.{Media, part_at}
use Rattle.media.specs.Places.{Placed, NamesWithin}
use Rattle.media_equal.specs.Meaning.{Setting, Meaning, unquoted, meanings}

module _ (s : List ℕ) where
  abbrev pub setting_at : Parameter → Setting
  setting_at p = record {
    name = part_at s p.start p.length;
    value = unquoted p.quoted (part_at s p.value_start p.value_length);
  }

  abbrev pub settings_at : List Parameter → List Setting
  settings_at [] = []
  settings_at (p ∷ ps) = setting_at p ∷ settings_at ps

  abbrev pub meaning_at : MediaType → List Parameter → Meaning
  meaning_at m ps = record {
    type = part_at s m.type_start m.type_length;
    subtype = part_at s m.subtype_start m.subtype_length;
    settings = settings_at ps;
  }

  -- the parts that reading gives stand within s, and what s means is found at their places
  pub record Says (m : Media) : Type 0 where
    pub names : NamesWithin s m.names
    pub full : length m.table ≡ m.names.count
    pub each : Placed s m.table
    pub means : header meanings s ≡ value (meaning_at m.names m.table)
