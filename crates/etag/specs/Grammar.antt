-- entity-tag = [ weak ] opaque-tag, weak = "W/", opaque-tag = quoted-string (RFC 2616 3.11); the mark in either letter case.
use Rattle.std.specs.Prelude.{ℕ, true, false, List, [], ◌∷◌, length}
use Rattle.std.proofs.Math.Option.{none}
use Rattle.grammar.specs.Grammar.{Part, Grammar, empty, byte, ◌⨾◌, part, opt, spell}
use Rattle.grammar.specs.Reading.{Rules}
use Rattle.grammar.specs.Text.{bytes}
use Rattle.octets.specs.Quoted.{QUOTE, quoted_text}
use Rattle.etag.specs.declared.Tag.{Tag}

pub data Name : Type 0 where
  weak opaque : Name

abbrev pub mark : List ℕ
mark = bytes "W/"

abbrev pub opaque_tag : Grammar Name
opaque_tag = byte QUOTE ⨾ part opaque quoted_text ⨾ byte QUOTE

abbrev pub entity_tag : Grammar Name
entity_tag = opt (part weak (spell mark tt empty)) ⨾ opaque_tag

-- a tag with a mark is weak; the opaque bytes are the last part. Every tag has one (`TagParts`): no reading reaches the first clause
abbrev pub value : List (Part Name) → Tag
value [] = record { weak = false; start = 0; length = 0 }
value (a ∷ []) = record { weak = false; start = a.start; length = length a.text }
value (a ∷ b ∷ ps) = record { weak = true; start = b.start; length = length b.text }

-- a tag has no limits and no faults
abbrev pub rules : Rules Name Tag
rules = record { grammar = entity_tag; limit = λ k ps. none; fault = λ ps. none; value = value }
