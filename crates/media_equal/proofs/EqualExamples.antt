-- Cases of equality, computed.
use Prim.Native.String.{String}
use mathlib.Core.Path.{◌≡◌, refl}
use mathlib.Core.Bool.{Bool, true, false}
use Rattle.grammar.specs.Grammar.{lower}
use Rattle.grammar.specs.Comparing.{Comparison, outcome, refused_at}
use Rattle.grammar.specs.Refusals.{MALFORMED, REPEATED_ATTRIBUTE}
use Rattle.grammar.specs.Text.{bytes}
use Rattle.octets.specs.Bytes.{blank?, token?, text?, escaped?}
use Rattle.media_equal.specs.Reading.{equality}

abbrev compared : String → String → Comparison Bool
compared a b = equality (bytes a) (bytes b)

-- "names ignore case", "the value of `charset` ignoring case"; a type with a parameter is not the type without it
names-and-charset :
    (compared "text/html;charset=\"utf-8\"" "TEXT/HTML ; Charset=UTF-8" ≡ outcome true)
    × (compared "text/html;charset=\"utf-8\"" "text/html" ≡ outcome false)
    × (compared "text/html" "text/unquoted" ≡ outcome false)
unfolding lower blank? token? text? escaped?
names-and-charset = (refl, refl, refl)

-- "the set of parameters": in any order, and none is left out
sets :
    (compared "a/b;x=1;y=2" "a/b;y=2;x=\"1\"" ≡ outcome true)
    × (compared "a/b;x=1;y=2" "a/b;x=1" ≡ outcome false)
    × (compared "a/b;x=1" "a/b;x=1;y=2" ≡ outcome false)
unfolding lower blank? token? text? escaped?
sets = (refl, refl, refl)

-- "values are compared after unquoting"; the case of other values counts
values :
    (compared "a/b;x=\"\\1\"" "a/b;x=1" ≡ outcome true)
    × (compared "a/b;x=\"\\\\1\"" "a/b;x=\"1\"" ≡ outcome false)
    × (compared "a/b;X=1" "a/b;x=1" ≡ outcome true)
    × (compared "a/b;X=1" "a/b;X=2" ≡ outcome false)
    × (compared "a/b;x=v" "a/b;x=V" ≡ outcome false)
    × (compared "a/b;x=1" "a/b;x=12" ≡ outcome false)
unfolding lower blank? token? text? escaped?
values = (refl, refl, refl, refl, refl, refl)

-- which one was refused
refusals :
    (compared "a" "b" ≡ refused_at 1 MALFORMED 1)
    × (compared "a/b" "a/b;x" ≡ refused_at 2 MALFORMED 5)
    × (compared "a/b" "a/b;x=1;X=2" ≡ refused_at 2 REPEATED_ATTRIBUTE 9)
unfolding lower blank? token? text? escaped?
refusals = (refl, refl, refl)
