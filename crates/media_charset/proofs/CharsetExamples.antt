-- Cases of the charset, computed.
use Prim.Native.Nat.{ℕ}
use Prim.Native.String.{String}
use mathlib.Core.Path.{◌≡◌, refl}
use mathlib.Core.Bool.{Bool, true, false}
use mathlib.Core.List.{List, []}
use mathlib.Core.Option.{Option, some}
use Rattle.grammar.specs.Grammar.{lower}
use Rattle.grammar.specs.Refusals.{MALFORMED, REPEATED_ATTRIBUTE}
use Rattle.grammar.specs.Text.{bytes}
use Rattle.grammar.specs.Reading.{Verdict, value, refused}
use Rattle.grammar.specs.helpers.Judge.{header}
use Rattle.octets.specs.Bytes.{blank?, token?, text?, escaped?}
use Rattle.media_charset.specs.Charset.{Effective, stated, latin_1, no_charset, charsets, charset_in_bytes}

abbrev charset : (assumed : Bool) → String → Verdict Effective
charset assumed s = header (charsets assumed) (bytes s)

abbrev name : (assumed : Bool) → String → Verdict (Option (List ℕ))
name assumed s = charset_in_bytes (charsets assumed) (bytes s)

-- 'The effective charset of `text` without the parameter becomes "none stated", as for other types.'
unassumed :
    (charset false "text/html" ≡ value no_charset)
    × (charset false "TEXT/html;q=charset" ≡ value no_charset)
    × (charset false "application/json" ≡ value no_charset)
unfolding lower blank? token? text? escaped?
unassumed = (refl, refl, refl)

-- "Type `text` without `charset` has the effective charset `ISO-8859-1`; other types without it have none."
assumed :
    (charset true "text/html" ≡ value latin_1)
    × (charset true "TEXT/html;q=charset" ≡ value latin_1)
    × (name true "text/html" ≡ value (some (bytes "ISO-8859-1")))
    × (charset true "application/json" ≡ value no_charset)
    × (charset true "texts/html" ≡ value no_charset)
unfolding lower blank? token? text? escaped?
assumed = (refl, refl, refl, refl, refl)

-- what is stated, and a refusal, whatever is assumed
either : (a : Bool)
    → (charset a "text/html;charset=x" ≡ value (stated 18 1 false))
    × (charset a "a/b;q=1;CHARSET=\"x y\"" ≡ value (stated 17 3 true))
    × (name a "TEXT/plain;charset=utf-8" ≡ value (some (bytes "utf-8")))
    × (charset a "text/html;charset=\"\"" ≡ value (stated 19 0 true))
    × (name a "text/html;charset=\"\"" ≡ value (some []))
    × (charset a "text/" ≡ refused MALFORMED 5)
    × (charset a "text/html;charset=a;Charset=b" ≡ refused REPEATED_ATTRIBUTE 27)
unfolding lower blank? token? text? escaped?
either a = (refl, refl, refl, refl, refl, refl, refl)
