-- The charset of a media type, by the places that reading gives.
use Rattle.std.specs.Prelude.{ℕ, Bool, cond, List, [], ◌∷◌}
use Rattle.octets.specs.Case.{alike}
use Rattle.media.specs.declared.MediaType.{MediaType}
use Rattle.media.specs.declared.Parameter.{Parameter}
use Rattle.media.specs.Grammar.{part_at}
use Rattle.media_equal.specs.Meaning.{charset_name}
use Rattle.media_charset.specs.Charset.{Effective, stated, default_charset}

module _ (s : List ℕ) where
  abbrev pub stated_at : Effective → List Parameter → Effective
  stated_at other [] = other
  stated_at other (p ∷ ps) =
      cond (alike (part_at s p.start p.length) charset_name) (stated p.value_start p.value_length p.quoted)
      (stated_at other ps)

  abbrev pub charset_at : (assumed : Bool) → MediaType → List Parameter → Effective
  charset_at assumed m ps = stated_at (default_charset assumed (part_at s m.type_start m.type_length)) ps
