-- Cases of reading, computed.
use Prim.Native.String.{String}
use mathlib.Core.Path.{◌≡◌, refl}
use mathlib.Core.Bool.{true, false}
use mathlib.Core.List.{[], ◌∷◌}
use Rattle.grammar.specs.Grammar.{lower}
use Rattle.grammar.specs.Refusals.{MALFORMED, TOO_MANY_PARAMETERS, REPEATED_ATTRIBUTE}
use Rattle.grammar.specs.Text.{bytes}
use Rattle.grammar.specs.Reading.{Verdict, value, refused}
use Rattle.grammar.specs.helpers.Judge.{header}
use Rattle.octets.specs.Bytes.{blank?, token?, text?, escaped?}
use Rattle.media.specs.Grammar.{Media, rules}

abbrev read : String → Verdict Media
read s = header rules (bytes s)

-- "The answer gives start and length of each part, a quoted value's without its quotes."
parts :
    read "text/html ; charset=\"a\\b\";q=1"
    ≡ value
    (record {
      names = record { type_start = 0; type_length = 4; subtype_start = 5; subtype_length = 4; count = 2 };
      table = record { start = 12; length = 7; value_start = 21; value_length = 3; quoted = true }
          ∷ record { start = 26; length = 1; value_start = 28; value_length = 1; quoted = false } ∷ [];
    })
unfolding lower blank? token? text? escaped?
parts = refl

-- "No blank stands around `/` or `=`"; blanks behind the last part wait for a semicolon
blanks :
    (read "text/html " ≡ refused MALFORMED 10)
    × (read "text /html" ≡ refused MALFORMED 4)
    × (read "text/ html" ≡ refused MALFORMED 5)
    × (read "text/html;charset =x" ≡ refused MALFORMED 17)
    × (read "text/html;charset= x" ≡ refused MALFORMED 18)
unfolding lower blank? token? text? escaped?
blanks = (refl, refl, refl, refl, refl)

-- what ends too early is refused at its length
cut_off :
    (read "" ≡ refused MALFORMED 0)
    × (read "a" ≡ refused MALFORMED 1)
    × (read "a/" ≡ refused MALFORMED 2)
    × (read "a/b;" ≡ refused MALFORMED 4)
    × (read "a/b;x" ≡ refused MALFORMED 5)
    × (read "a/b;x=" ≡ refused MALFORMED 6)
    × (read "a/b;x=\"" ≡ refused MALFORMED 7)
    × (read "a/b;x=\"\\" ≡ refused MALFORMED 8)
unfolding lower blank? token? text? escaped?
cut_off = (refl, refl, refl, refl, refl, refl, refl, refl)

-- "attribute repeated, letter case ignored": the `=` after the second
repeated-name : (read "a/b;x=1;X=2" ≡ refused REPEATED_ATTRIBUTE 9) × (read "a/b;x=1;y=2;x" ≡ refused MALFORMED 13)
unfolding lower blank? token? text? escaped?
repeated-name = (refl, refl)

-- "more than 16 parameters": the first byte of the 17th attribute, even where it repeats a name
seventeenth :
    (read "a/b;a=1;b=1;c=1;d=1;e=1;f=1;g=1;h=1;i=1;j=1;k=1;l=1;m=1;n=1;o=1;p=1;a=1" ≡ refused TOO_MANY_PARAMETERS 68)
    × (read "a/b;a=1;b=1;c=1;d=1;e=1;f=1;g=1;h=1;i=1;j=1;k=1;l=1;m=1;n=1;o=1;p=1;" ≡ refused MALFORMED 68)
unfolding lower blank? token? text? escaped?
seventeenth = (refl, refl)
