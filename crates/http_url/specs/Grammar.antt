-- http_URL = "http:" "//" host [ ":" port ] [ path [ "?" query ] ]: RFC 2616 3.2.2 as document 01 states it. The scheme is in any letter
-- case; the port is at most 65,535.
use Rattle.std.specs.Prelude as P
use Rattle.std.specs.Prelude.{ℕ, Bool, true, false, cond, List, [], ◌∷◌, Some, None, length}
use Prim.Native.Char.{code}
use Rattle.std.proofs.Math.Option.{Option, none, some}
use Rattle.grammar.specs.Grammar.{Class, Part, Grammar, byte, ◌⨾◌, ◌∣◌, star, plus, opt, part, just, spell}
use Rattle.grammar.specs.Reading.{Rules}
use Rattle.grammar.specs.Text.{bytes}
use Rattle.octets.specs.Classes.{DIGIT, HEX}
use Rattle.octets.specs.Numbers.{number, number_limit}
use Rattle.http_url.specs.Bytes.{HOST, PATH, QUERY}
use Rattle.http_url.specs.declared.Span.{Span}
use Rattle.http_url.specs.declared.Url.{Url}

pub data Name : Type 0 where
  host port path query : Name

-- `%` with two hex digits
abbrev pub escape : Grammar Name
escape = byte (just (code "%") tt) ⨾ byte HEX ⨾ byte HEX

-- bytes of a class, and escapes
abbrev pub text_of : Class → Grammar Name
text_of c = star (byte c ∣ escape)

-- "A query needs a path."
abbrev pub query_part : Grammar Name
query_part = opt (byte (just (code "?") tt) ⨾ part query (text_of QUERY))

-- "Path begins with `/`."
abbrev pub path_part : Grammar Name
path_part = opt (part path (byte (just (code "/") tt) ⨾ text_of PATH) ⨾ query_part)

abbrev pub port_part : Grammar Name
port_part = opt (byte (just (code ":") tt) ⨾ part port (star (byte DIGIT)))

abbrev pub host_part : Grammar Name
host_part = part host (plus (byte HOST)) ⨾ port_part ⨾ path_part

abbrev pub scheme : List ℕ
scheme = bytes "http://"

abbrev pub url : Grammar Name
url = spell scheme tt host_part

-- ## The parts by name

abbrev pub is_host : Name → Bool
is_host host = true
is_host port = false
is_host path = false
is_host query = false

abbrev pub is_port : Name → Bool
is_port host = false
is_port port = true
is_port path = false
is_port query = false

abbrev pub is_path : Name → Bool
is_path host = false
is_path port = false
is_path path = true
is_path query = false

abbrev pub is_query : Name → Bool
is_query host = false
is_query port = false
is_query path = false
is_query query = true

-- the part of that name, where there is one
abbrev pub named : (Name → Bool) → List (Part Name) → Option (Part Name)
named is [] = none
named is (c ∷ ps) = cond (is c.label) (some c) (named is ps)

-- "empty or absent is 80"
abbrev pub default_port : ℕ
default_port = 80

abbrev pub port_text : List ℕ → ℕ
port_text [] = default_port
port_text (b ∷ t) = number (b ∷ t)

abbrev pub port_number : Option (Part Name) → ℕ
port_number none = default_port
port_number (some c) = port_text c.text

-- ## What reading answers: where the parts stand

abbrev pub span : Part Name → Span
span c = record { start = c.start; length = length c.text }

abbrev pub host_span : Option (Part Name) → Span
-- never: a URL has a host
host_span none = record { start = 0; length = 0 }
host_span (some c) = span c

abbrev pub place : Option (Part Name) → P.Option Span
place none = None
place (some c) = Some (span c)

abbrev pub value : List (Part Name) → Url
value ps = record {
  host = host_span (named is_host ps);
  port = port_number (named is_port ps);
  path = place (named is_path ps);
  query = place (named is_query ps);
}

abbrev pub largest_port : ℕ
largest_port = 65535

abbrev pub rules : Rules Name Url
rules = record { grammar = url; limit = number_limit is_port largest_port; fault = λ ps. none; value = value }
