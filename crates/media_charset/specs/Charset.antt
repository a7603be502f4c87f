-- The charset of a media type: the value of its parameter `charset`. Without the parameter, by request (v): 'The effective charset of
-- `text` without the parameter becomes "none stated", as for other types.' Document 01 had, and a caller may still assume: "Type `text`
-- without `charset` has the effective charset `ISO-8859-1`; other types without it have none."
use Rattle.std.specs.Prelude.{ℕ, ◌≡◌, Bool, true, false, cond, List, [], ◌∷◌, length}
use Rattle.std.proofs.Math.Option.{Option, none, some}
use Rattle.grammar.specs.Grammar.{Part}
use Rattle.grammar.specs.Reading.{Rules, Verdict, value, refused}
use Rattle.grammar.specs.Text.{bytes}
use Rattle.grammar.specs.helpers.Judge.{header}
use Rattle.octets.specs.Case.{alike}
use Rattle.media.specs.Grammar.{Name, quoted?, valued, part_at}
use Rattle.media_equal.specs.Meaning.{charset_name, unquoted, Setting, Meaning, has_setting}

pub data Effective : Type 0 where
  -- where the value stands, without its quotes, and whether it was quoted
  stated : (start size : ℕ) (quoted : Bool) → Effective
  latin_1 : Effective
  no_charset : Effective

abbrev pub text_type : List ℕ
text_type = bytes "text"

-- the charset of a type without the parameter, where ISO-8859-1 is assumed of `text`, and where it is not
abbrev pub default_charset : (assumed : Bool) (type : List ℕ) → Effective
default_charset true type = cond (alike type text_type) latin_1 no_charset
default_charset false type = no_charset

-- the charset in bytes, none where there is none: a stated one is what stands in s, of a quoted value's pairs their second bytes
abbrev pub charset_text : (s : List ℕ) → Effective → Option (List ℕ)
charset_text s (stated start size quoted) = some (unquoted quoted (part_at s start size))
charset_text s latin_1 = some (bytes "ISO-8859-1")
charset_text s no_charset = none

-- the value of the parameter `charset` among the parts of the parameters, or the charset without it; no media type has an attribute
-- without a value (`MediaParts`)
abbrev pub stated_or : Effective → List (Part Name) → Effective
stated_or other [] = other
stated_or other (a ∷ []) = other
stated_or other (a ∷ v ∷ ps) =
    cond (alike a.text charset_name) (stated v.start (length v.text) (quoted? v.label)) (stated_or other ps)

-- every media type has a type and a subtype (`MediaParts`): no reading reaches the first two clauses
abbrev pub charset_of : (assumed : Bool) → List (Part Name) → Effective
charset_of assumed [] = no_charset
charset_of assumed (t ∷ []) = no_charset
charset_of assumed (t ∷ u ∷ ps) = stated_or (default_charset assumed t.text) ps

-- media types read for their charset
abbrev pub charsets : (assumed : Bool) → Rules Name Effective
charsets assumed = valued (charset_of assumed)

abbrev pub effective_charsets : Rules Name Effective
effective_charsets = charsets false

-- as document 01 had it
abbrev pub charsets_assuming_iso_8859_1 : Rules Name Effective
charsets_assuming_iso_8859_1 = charsets true

-- ## For the theorems

-- the parameter `charset` with that value
abbrev pub charset_is : List ℕ → Setting
charset_is v = record { name = charset_name; value = v }

-- no value of `charset` is one of the settings
abbrev pub NoCharset : Meaning → Type 0
NoCharset m = (v : List ℕ) → has_setting (charset_is v) m.settings ≡ false

abbrev pub in_bytes : (s : List ℕ) → Verdict Effective → Verdict (Option (List ℕ))
in_bytes s (value e) = value (charset_text s e)
in_bytes s (refused n p) = refused n p

-- the charset of s in bytes
abbrev pub charset_in_bytes : Rules Name Effective → (s : List ℕ) → Verdict (Option (List ℕ))
charset_in_bytes rules s = in_bytes s (header rules s)

-- the same by what the media type means: the value of `charset`, or that of the type, which stands in no text
abbrev pub value_or : Option (List ℕ) → List Setting → Option (List ℕ)
value_or other [] = other
value_or other (p ∷ ps) = cond (alike p.name charset_name) (some p.value) (value_or other ps)

abbrev pub meant_charset : (assumed : Bool) → Meaning → Option (List ℕ)
meant_charset assumed m = value_or (charset_text [] (default_charset assumed m.type)) m.settings

-- the same charset, letter case ignored
abbrev pub same_charset : Option (List ℕ) → Option (List ℕ) → Bool
same_charset none none = true
same_charset none (some w) = false
same_charset (some v) none = false
same_charset (some v) (some w) = alike v w
