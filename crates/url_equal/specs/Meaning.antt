-- What a URL means, and when two are the same: RFC 2616 3.2.3 as document 01 states it.
use Rattle.std.specs.Prelude.{ℕ, Bool, true, false, ◌&&◌, List, [], ◌∷◌, eqb}
use Rattle.std.proofs.Math.Option.{Option, none, some}
use Rattle.grammar.specs.Grammar.{Part, lower}
use Rattle.grammar.specs.Reading.{Rules}
use Rattle.grammar.specs.Comparing.{Comparison, compare}
use Rattle.grammar.specs.Text.{bytes}
use Rattle.grammar.specs.helpers.Judge.{header}
use Rattle.octets.specs.Same.{same?}
use Rattle.http_url.specs.Grammar.{Name, is_host, is_port, is_path, is_query, named, port_number, rules}
use Rattle.escapes.specs.Resolved.{resolved}

-- "host ignores case"
abbrev pub lower_all : List ℕ → List ℕ
lower_all [] = []
lower_all (b ∷ s) = lower b ∷ lower_all s

-- The page that a URL names. The path is never absent here: "an absent path equals `/`".
pub record Page : Type 0 where
  pub host : List ℕ
  pub port : ℕ
  pub path : List ℕ
  pub query : Option (List ℕ)

abbrev pub host_text : Option (Part Name) → List ℕ
-- never: a URL has a host
host_text none = []
host_text (some c) = lower_all c.text

abbrev pub path_text : Option (Part Name) → List ℕ
path_text none = bytes "/"
path_text (some c) = resolved c.text

abbrev pub query_text : Option (Part Name) → Option (List ℕ)
query_text none = none
query_text (some c) = some (resolved c.text)

abbrev pub page : List (Part Name) → Page
page ps = record {
  host = host_text (named is_host ps);
  port = port_number (named is_port ps);
  path = path_text (named is_path ps);
  query = query_text (named is_query ps);
}

-- URLs read for what they mean: the same grammar and limits, another value
abbrev pub pages : Rules Name Page
pages = record { grammar = rules.grammar; limit = rules.limit; fault = rules.fault; value = page }

abbrev pub same_query : Option (List ℕ) → Option (List ℕ) → Bool
same_query none none = true
same_query none (some t) = false
same_query (some s) none = false
same_query (some s) (some t) = same? s t

abbrev pub same_page : Page → Page → Bool
same_page p q =
    same? p.host q.host && (eqb p.port q.port && (same? p.path q.path && same_query p.query q.query))

-- what comparing two URLs answers
abbrev pub equality : List ℕ → List ℕ → Comparison Bool
equality a b = compare same_page (header pages a) (header pages b)
