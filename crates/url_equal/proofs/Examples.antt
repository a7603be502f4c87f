-- Cases of document 01 and of RFC 2616 3.2.3, computed.
use Prim.Native.String.{String}
use mathlib.Core.Path.{◌≡◌, refl}
use mathlib.Core.Bool.{Bool, true, false}
use Rattle.grammar.specs.Grammar.{lower}
use Rattle.grammar.specs.Comparing.{Comparison, outcome, refused_at, compare}
use Rattle.grammar.specs.Text.{bytes}
use Rattle.grammar.specs.helpers.Judge.{header}
use Rattle.octets.specs.Bytes.{digit?, letter?, hex?}
use Rattle.http_url.specs.Bytes.{host?, unreserved?, path?, query?}
use Rattle.url_equal.specs.Meaning.{pages, same_page}

abbrev compared : String → String → Comparison Bool
compared a b = compare same_page (header pages (bytes a)) (header pages (bytes b))

-- RFC 2616 3.2.3: three URLs that are equivalent
rfc :
    (compared "http://abc.com:80/~smith/home.html" "http://ABC.com/%7Esmith/home.html" ≡ outcome true)
    × (compared "http://ABC.com/%7Esmith/home.html" "http://ABC.com:/%7esmith/home.html" ≡ outcome true)
unfolding lower digit? letter? hex? host? unreserved? path? query?
rfc = (refl, refl)

-- "an absent path equals `/`"; the port is compared as a number; `/` and `/?` differ
path_or_port :
    (compared "http://a" "http://a/" ≡ outcome true)
    × (compared "http://a" "http://a:0080/" ≡ outcome true)
    × (compared "http://a" "HTTP://A:/" ≡ outcome true)
    × (compared "http://a" "http://a/?" ≡ outcome false)
    × (compared "http://a" "http://a:81" ≡ outcome false)
unfolding lower digit? letter? hex? host? unreserved? path? query?
path_or_port = (refl, refl, refl, refl, refl)

-- "`%2F` and `%2f` differ", and neither is `/`; the letter case of a path counts
escapes :
    (compared "http://a/%2F" "http://a//" ≡ outcome false)
    × (compared "http://a/%2F" "http://a/%2f" ≡ outcome false)
    × (compared "http://a/%41" "http://a/A" ≡ outcome true)
    × (compared "http://a/%41" "http://a/a" ≡ outcome false)
    × (compared "http://a/?%7E" "http://a/?~" ≡ outcome true)
unfolding lower digit? letter? hex? host? unreserved? path? query?
escapes = (refl, refl, refl, refl, refl)

-- refusals: which URL's, and their places
refusals :
    (compared "http://a?x" "http:///" ≡ refused_at 1 1 8)
    × (compared "http://a" "http:///" ≡ refused_at 2 1 7)
unfolding lower digit? letter? hex? host? unreserved? path? query?
refusals = (refl, refl)
