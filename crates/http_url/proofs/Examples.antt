-- Cases of document 01, computed.
use Prim.Native.String.{String}
use Rattle.std.proofs.Common.{◌≡◌, Some, None, refl}
use Rattle.grammar.specs.Grammar.{lower}
use Rattle.grammar.specs.Text.{bytes}
use Rattle.grammar.specs.Reading.{Verdict, value, refused}
use Rattle.grammar.specs.helpers.Judge.{header}
use Rattle.octets.specs.Bytes.{digit?, letter?, hex?}
use Rattle.http_url.specs.declared.Url.{Url}
use Rattle.http_url.specs.Bytes.{host?, unreserved?, path?, query?}
use Rattle.http_url.specs.Grammar.{rules}

abbrev read : String → Verdict Url
read s = header rules (bytes s)

-- refusals and their places
refusals :
    (read "http://a/%4" ≡ refused 1 11)
    × (read "http://a:65536/" ≡ refused 2 13)
    × (read "http://a?x" ≡ refused 1 8)
    × (read "http:///" ≡ refused 1 7)
    × (read "http://a/#" ≡ refused 1 9)
unfolding lower digit? letter? hex? host? unreserved? path? query?
refusals = (refl, refl, refl, refl, refl)

-- parts: an escaped `?` begins no query; an empty query is one
parts :
    (read "http://a:65535/b%3Fc"
    ≡ value (record { host = record { start = 7; length = 1 }; port = 65535; path = Some (record { start = 14; length = 6 }); query = None }))
    × (read "http://a/?"
    ≡ value (record { host = record { start = 7; length = 1 }; port = 80; path = Some (record { start = 8; length = 1 }); query = Some (record { start = 10; length = 0 }) }))
unfolding lower digit? letter? hex? host? unreserved? path? query?
parts = (refl, refl)
