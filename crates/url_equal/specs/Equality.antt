-- When two URLs are equal: RFC 2616 3.2.3 as document 01 states it, over the parts and the bytes themselves. proofs/Demands.antt proves
-- that the comparison answers this.
use Rattle.std.specs.Prelude.{ℕ, ◌≡◌, true, List, []}
use Rattle.std.proofs.Math.Option.{Option, none, some}
use Rattle.grammar.specs.Grammar.{Part, Parses}
use Rattle.grammar.specs.Reading as G
use Rattle.grammar.specs.Text.{bytes}
use Rattle.grammar.specs.helpers.Judge.{header}
use Rattle.octets.specs.Case.{alike}
use Rattle.http_url.specs.Grammar.{Name, url, is_host, is_port, is_path, is_query, named, port_number, value, rules}
use Rattle.escapes.specs.Symbols.{EqualTexts}

-- ## Parts

abbrev pub text_of_host : Option (Part Name) → List ℕ
-- never: a URL has a host
text_of_host none = []
text_of_host (some c) = c.text

-- "an absent path equals `/`"
abbrev pub text_of_path : Option (Part Name) → List ℕ
text_of_path none = bytes "/"
text_of_path (some c) = c.text

-- an absent query equals only an absent one: `/` and `/?` differ
pub data EqualQueries : Option (Part Name) → Option (Part Name) → Type 0 where
  both_absent : EqualQueries none none
  both_there : {c d : Part Name} → EqualTexts c.text d.text → EqualQueries (some c) (some d)

pub record EqualParts (ps qs : List (Part Name)) : Type 0 where
  pub hosts : alike (text_of_host (named is_host ps)) (text_of_host (named is_host qs)) ≡ true
  pub ports : port_number (named is_port ps) ≡ port_number (named is_port qs)
  pub paths : EqualTexts (text_of_path (named is_path ps)) (text_of_path (named is_path qs))
  pub queries : EqualQueries (named is_query ps) (named is_query qs)

-- ## Whole URLs

-- s is read, and these are its parts
pub record HasParts (s : List ℕ) (ps : List (Part Name)) : Type 0 where
  pub parts : Parses url 0 s ps
  pub is_read : header rules s ≡ G.value (value ps)

abbrev pub EqualUrls : List ℕ → List ℕ → Type 0
EqualUrls a b = (ps : List (Part Name)) × (qs : List (Part Name)) × HasParts a ps × HasParts b qs × EqualParts ps qs
