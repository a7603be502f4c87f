-- The theorems of the charset of a media type: what a customer reads.
use Prim.Native.Nat.{ℕ}
use mathlib.Core.Path.{◌≡◌, refl, ap}
use mathlib.Core.Logic.{◌↔◌, ◌⊎◌}
use mathlib.Core.Bool.{Bool, true, false}
use mathlib.Core.List.{List}
use mathlib.Core.Option.{none, some}
use Rattle.grammar.specs.Grammar.{lower}
use Rattle.grammar.specs.Reading.{Verdict, value, refused, Answers}
use Rattle.grammar.specs.Comparing.{outcome, compare}
use Rattle.grammar.specs.Text.{bytes}
use Rattle.grammar.specs.helpers.Judge.{header}
use Rattle.grammar.proofs.Demands.{answered_exactly}
use Rattle.octets.specs.Bytes.{blank?, token?, text?, escaped?}
use Rattle.octets.specs.Case.{alike}
use Rattle.media.specs.Grammar.{Media, rules, part_at}
use Rattle.media.proofs.Parts.{one_way}
use Rattle.media_equal.specs.Meaning.{unquoted, Meaning, meanings, has_setting}
use Rattle.media_charset.specs.Charset.{Effective, stated, latin_1, default_charset, charsets, effective_charsets}
use Rattle.media_charset.specs.Charset.{charsets_assuming_iso_8859_1, charset_in_bytes, in_bytes, charset_is, NoCharset}
use Rattle.media_charset.specs.Charset.{meant_charset, same_charset}
use Rattle.media_charset.specs.Places.{charset_at}
use Rattle.media_charset.proofs.Places.{effect, no_effect}
use Rattle.media_charset.proofs.Effect.{default_effect, stated-effect, value_effect, text-effect, other-effect}
use Rattle.media_charset.proofs.Effect.{bytes-effect, meant_effect}
use Rattle.media_charset.proofs.Assuming.{never-latin_1, refusal_stays, agree_when}

-- ## The effective charset (the promise of `effective_charset` is `header effective_charsets s`)

-- 'The effective charset of `text` without the parameter becomes "none stated", as for other types.'
pub effective_none : (s : List ℕ) (m : Meaning) → header meanings s ≡ value m → NoCharset m
    → charset_in_bytes effective_charsets s ≡ value none
effective_none s m e f = ap (in_bytes s) (default_effect s m e false f)

-- The answer ISO-8859-1 never comes.
pub never_assumed : (s : List ℕ) → header effective_charsets s ≡ value latin_1 → ⊥
never_assumed = never-latin_1

-- ## As document 01 had it (the promise of `charset_assuming_iso_8859_1` is `header charsets_assuming_iso_8859_1 s`)

-- "Type `text` without `charset` has the effective charset `ISO-8859-1`"
pub text-charset : (s : List ℕ) (m : Meaning) → header meanings s ≡ value m → alike m.type (bytes "text") ≡ true → NoCharset m
    → charset_in_bytes charsets_assuming_iso_8859_1 s ≡ value (some (bytes "ISO-8859-1"))
text-charset = text-effect

-- "other types without it have none"
pub other-charset : (s : List ℕ) (m : Meaning) → header meanings s ≡ value m → alike m.type (bytes "text") ≡ false → NoCharset m
    → charset_in_bytes charsets_assuming_iso_8859_1 s ≡ value none
other-charset = other-effect

-- So `text/html` has the charset that `text/html;charset=ISO-8859-1` states, in either letter case, quoted or not.
pub html_charset :
    (compare same_charset (charset_in_bytes charsets_assuming_iso_8859_1 (bytes "text/html"))
    (charset_in_bytes charsets_assuming_iso_8859_1 (bytes "text/html;charset=ISO-8859-1"))
    ≡ outcome true)
    × (compare same_charset (charset_in_bytes charsets_assuming_iso_8859_1 (bytes "text/html"))
    (charset_in_bytes charsets_assuming_iso_8859_1 (bytes "text/html;charset=\"iso-8859-1\""))
    ≡ outcome true)
unfolding lower blank? token? text? escaped?
html_charset = (refl, refl)

-- ## The two

-- They agree on a media type exactly where its type is not `text` or the parameter is there.
pub agree_exactly : (s : List ℕ) (m : Meaning) → header meanings s ≡ value m
    → (header charsets_assuming_iso_8859_1 s ≡ header effective_charsets s)
    ↔ ((alike m.type (bytes "text") ≡ false) ⊎ ((v : List ℕ) × (has_setting (charset_is v) m.settings ≡ true)))
agree_exactly = agree_when

-- A refusal of one is the refusal of the other.
pub same_refusals : (a b : Bool) (s : List ℕ) (n p : ℕ) → header (charsets a) s ≡ refused n p → header (charsets b) s ≡ refused n p
same_refusals a b s = refusal_stays s a b

-- ## Both: a says whether ISO-8859-1 is assumed

module _ (a : Bool) where
  -- As `reading` of media: for the charset.
  pub charset_read : (s : List ℕ) (v : Verdict Effective) → (header (charsets a) s ≡ v) ↔ Answers (charsets a) s v
  charset_read = answered_exactly (charsets a) tt tt one_way

  -- The charset is found at the places that reading gives. A refusal of one is the refusal of the other.
  pub places : (s : List ℕ) (m : Media) → header rules s ≡ value m
      → header (charsets a) s ≡ value (charset_at s a m.names m.table)
  places s = effect s a

  pub refusals : (s : List ℕ) (n p : ℕ) → header rules s ≡ refused n p → header (charsets a) s ≡ refused n p
  refusals s = no_effect s a

  -- In every case it is that of what the media type means; with `charset` it is a value of that parameter.
  pub charset_meant : (s : List ℕ) (m : Meaning) → header meanings s ≡ value m → charset_in_bytes (charsets a) s ≡ value (meant_charset a m)
  charset_meant s m e = meant_effect s m e a

  pub named-charset : (s : List ℕ) (m : Meaning) → header meanings s ≡ value m
      → (v : List ℕ) → has_setting (charset_is v) m.settings ≡ true
      → (w : List ℕ) × (charset_in_bytes (charsets a) s ≡ value (some w)) × (has_setting (charset_is w) m.settings ≡ true)
  named-charset s m e = bytes-effect s m e a

  -- The same by the cases of the answer: without `charset`, `default_charset`; with it, where its value stands.
  pub without_charset : (s : List ℕ) (m : Meaning) → header meanings s ≡ value m → NoCharset m
      → header (charsets a) s ≡ value (default_charset a m.type)
  without_charset s m e = default_effect s m e a

  pub with_charset : (s : List ℕ) (m : Meaning) → header meanings s ≡ value m
      → (v : List ℕ) → has_setting (charset_is v) m.settings ≡ true
      → (i : ℕ) × (n : ℕ) × (q : Bool) × (header (charsets a) s ≡ value (stated i n q))
  with_charset s m e = stated-effect s m e a

  pub stated-charset : (s : List ℕ) (m : Meaning) → header meanings s ≡ value m
      → (i n : ℕ) (q : Bool) → header (charsets a) s ≡ value (stated i n q)
      → has_setting (charset_is (unquoted q (part_at s i n))) m.settings ≡ true
  stated-charset s m e = value_effect s m e a
