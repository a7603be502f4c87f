-- language-tag = primary-tag *( "-" subtag ), primary-tag = 1*8ALPHA, subtag = 1*8ALPHA (RFC 2616 3.10).
use Rattle.std.specs.Prelude.{ℕ, List, [], ◌∷◌, length}
use Prim.Native.Char.{code}
use Rattle.std.proofs.Math.Option.{none}
use Rattle.grammar.specs.Grammar.{Class, Part, Grammar, byte, ◌⨾◌, star, part, up_to, just}
use Rattle.grammar.specs.Reading.{Rules}
use Rattle.octets.specs.Classes.{LETTER}
use Rattle.language.specs.declared.Tag.{Tag}

pub data Name : Type 0 where
  primary subtag : Name

abbrev pub HYPHEN : Class
HYPHEN = just (code "-") tt

-- 1 to 8 letters
abbrev pub letters : Grammar Name
letters = byte LETTER ⨾ up_to 7 (byte LETTER)

abbrev pub subtags : Grammar Name
subtags = star (byte HYPHEN ⨾ part subtag letters)

abbrev pub language : Grammar Name
language = part primary letters ⨾ subtags

-- every tag has a primary part (`TagParts`): no reading reaches the first clause
abbrev pub length_of_primary : List (Part Name) → ℕ
length_of_primary [] = 0
length_of_primary (a ∷ ps) = length a.text

abbrev pub value : List (Part Name) → Tag
value ps = record { parts = length ps; primary_length = length_of_primary ps }

-- a tag has no limits and no faults
abbrev pub rules : Rules Name Tag
rules = record { grammar = language; limit = λ k ps. none; fault = λ ps. none; value = value }
