-- delta-seconds = 1*DIGIT (RFC 2616 3.3.2). "Delta-seconds above 2,147,483,647 shall answer 2,147,483,648 (RFC 2616 14.6) and say that it
-- was capped": no number of seconds is refused.
use Rattle.std.specs.Prelude.{ℕ, List, [], ◌∷◌}
use Rattle.std.proofs.Math.Option.{none}
use Rattle.grammar.specs.Grammar.{Part, Grammar, byte, plus, part}
use Rattle.grammar.specs.Reading.{Rules}
use Rattle.octets.specs.Classes.{DIGIT}
use Rattle.octets.specs.Numbers.{number, Capped, capped_number}
use Rattle.delta.specs.declared.Seconds.{Seconds}

pub data Name : Type 0 where
  seconds : Name

abbrev pub delta_seconds : Grammar Name
delta_seconds = part seconds (plus (byte DIGIT))

abbrev pub largest : ℕ
largest = 2147483647

-- what stands for more
abbrev pub cap : ℕ
cap = 2147483648

abbrev pub as_seconds : Capped → Seconds
as_seconds c = record { value = c.value; capped = c.capped }

-- what digits mean; leading zeros are ignored
abbrev pub seconds_of : List ℕ → Seconds
seconds_of s = as_seconds (capped_number largest cap (number s))

-- a text that is read has one part, so that no reading reaches the first clause
abbrev pub value : List (Part Name) → Seconds
value [] = seconds_of []
value (c ∷ ps) = seconds_of c.text

abbrev pub rules : Rules Name Seconds
rules = record { grammar = delta_seconds; limit = λ k ps. none; fault = λ ps. none; value = value }
