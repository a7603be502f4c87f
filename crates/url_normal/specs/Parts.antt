-- What is asked of a normal form, over its parts and its bytes; it is a URL that reads, and so has at most 8,192 bytes. `normal_exactly` of
-- proofs/Demands.antt: the normal form of a URL is the one text that is equal to it and has all of this.
use Rattle.std.specs.Prelude.{ℕ, ◌≡◌, List, length, take}
use Rattle.std.proofs.Math.Option.{Option, none, some}
use Rattle.grammar.specs.Grammar.{Part}
use Rattle.octets.specs.Numbers.{number}
use Rattle.numerals.specs.Numeral.{numeral}
use Rattle.http_url.specs.Grammar.{Name, scheme, default_port, is_host, is_port, is_path, is_query, named}
use Rattle.escapes.specs.Symbols.{NoneUnneeded}
use Rattle.url_equal.specs.Meaning.{lower_all}
use Rattle.url_equal.specs.Equality.{text_of_host, HasParts}

-- "no port 80, other ports without leading zeros"
pub data PortNormal : Option (Part Name) → Type 0 where
  no_port : PortNormal none
  other_port : {c : Part Name} → (number c.text ≡ default_port → ⊥) → c.text ≡ numeral 10 (number c.text) → PortNormal (some c)

-- "`/` for an absent path"; "unneeded escapes removed"
pub data PathNormal : Option (Part Name) → Type 0 where
  a_path : {c : Part Name} → NoneUnneeded c.text → PathNormal (some c)

pub data QueryNormal : Option (Part Name) → Type 0 where
  no_query : QueryNormal none
  a_query : {c : Part Name} → NoneUnneeded c.text → QueryNormal (some c)

-- the URL s, whose parts are ps, is a normal form
pub record NormalParts (s : List ℕ) (ps : List (Part Name)) : Type 0 where
  pub has_parts : HasParts s ps
  -- "lower-case scheme and host"
  pub scheme_is : take (length scheme) s ≡ scheme
  pub host : lower_all (text_of_host (named is_host ps)) ≡ text_of_host (named is_host ps)
  pub port : PortNormal (named is_port ps)
  pub path : PathNormal (named is_path ps)
  pub query : QueryNormal (named is_query ps)

abbrev pub Normal : List ℕ → Type 0
Normal s = (ps : List (Part Name)) × NormalParts s ps
