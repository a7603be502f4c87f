-- HTTP-Version = "HTTP" "/" 1*DIGIT "." 1*DIGIT (RFC 2616 3.1), `HTTP/` in any letter case (2.1); each number is at most 65,535.
use Prim.Native.Char.{code}
use Rattle.std.specs.Prelude.{true, List, [], ◌∷◌}
use Rattle.std.proofs.Math.Option.{none}
use Rattle.grammar.specs.Grammar.{Part, Grammar, byte, ◌⨾◌, plus, part, spell, just}
use Rattle.grammar.specs.Reading.{Rules}
use Rattle.octets.specs.Classes.{DIGIT}
use Rattle.octets.specs.Numbers.{number, number_limit}
use Rattle.version.specs.declared.Version.{Version}
-- `HTTP/`, and 65,535: what is read is what is written
pub use Rattle.version_writer.specs.Writing.{http, largest}

pub data Name : Type 0 where
  major minor : Name

abbrev pub numbers : Grammar Name
numbers = part major (plus (byte DIGIT)) ⨾ byte (just (code ".") tt) ⨾ part minor (plus (byte DIGIT))

abbrev pub version : Grammar Name
version = spell http tt numbers

-- leading zeros are ignored; a text that is read has two parts, so that no reading reaches the first two clauses
abbrev pub value : List (Part Name) → Version
value [] = record { major = 0; minor = 0 }
value (a ∷ []) = record { major = number a.text; minor = 0 }
value (a ∷ b ∷ ps) = record { major = number a.text; minor = number b.text }

abbrev pub rules : Rules Name Version
rules = record { grammar = version; limit = number_limit (λ l. true) largest; fault = λ ps. none; value = value }
