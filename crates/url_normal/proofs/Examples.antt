-- Cases of request (x) and of RFC 2616 3.2.3, computed.
use Prim.Native.String.{String}
use mathlib.Core.Path.{◌≡◌, refl}
use Rattle.grammar.specs.Grammar.{lower}
use Rattle.grammar.specs.Reading.{value, refused}
use Rattle.grammar.specs.Refusals.{MALFORMED, OUTPUT_TOO_SHORT}
use Rattle.grammar.specs.Text.{bytes}
use Rattle.octets.specs.Bytes.{digit?, letter?, hex?}
use Rattle.numerals.specs.Numeral.{glyph, digits, width_in, width, numeral}
use Rattle.http_url.specs.Bytes.{host?, unreserved?, path?, query?}
use Rattle.url_normal.specs.Normal.{normal_form, normal_writing}

abbrev Gives : String → String → Type 0
Gives s n = normal_form (bytes s) ≡ value (bytes n)

-- RFC 2616 3.2.3: three URLs that are equivalent; and one in other letter case
rfc :
    Gives "http://abc.com:80/~smith/home.html" "http://abc.com/~smith/home.html"
    × Gives "http://ABC.com/%7Esmith/home.html" "http://abc.com/~smith/home.html"
    × Gives "http://ABC.com:/%7esmith/home.html" "http://abc.com/~smith/home.html"
    × Gives "HTTP://ABC.com:/%7Esmith/home.html" "http://abc.com/~smith/home.html"
unfolding lower digit? letter? hex? host? unreserved? path? query? glyph digits width_in width numeral
rfc = (refl, refl, refl, refl)

-- "`/` for an absent path", "no port 80", "other ports without leading zeros"; an empty query keeps its `?`
path_or_port :
    Gives "http://a" "http://a/"
    × Gives "http://a:0080/?" "http://a/?"
    × Gives "http://a:0" "http://a:0/"
    × Gives "http://a:00" "http://a:0/"
unfolding lower digit? letter? hex? host? unreserved? path? query? glyph digits width_in width numeral
path_or_port = (refl, refl, refl, refl)

-- "unneeded escapes removed, other escapes as they were"; what is resolved makes no new escape
escapes :
    Gives "http://A:08080/%2f%2F%41" "http://a:8080/%2f%2FA"
    × Gives "http://a/%2541" "http://a/%2541"
    × Gives "http://a/?%41?%3f" "http://a/?A?%3f"
unfolding lower digit? letter? hex? host? unreserved? path? query? glyph digits width_in width numeral
escapes = (refl, refl, refl)

-- refusals: reading's, with its place, before a short output
refusals :
    (normal_writing (bytes "http://a?x") 0 ≡ refused MALFORMED 8)
    × (normal_writing (bytes "http://a") 8 ≡ refused OUTPUT_TOO_SHORT 0)
    × (normal_writing (bytes "http://a") 9 ≡ value 9)
unfolding lower digit? letter? hex? host? unreserved? path? query? glyph digits width_in width numeral
refusals = (refl, refl, refl)
