-- qvalue = ( "0" [ "." 0*3DIGIT ] ) | ( "1" [ "." 0*3("0") ] ) (RFC 2616 3.9); its value in thousandths.
use Rattle.std.specs.Prelude.{ℕ, List, [], ◌∷◌, ◌++◌, take}
use Prim.Native.Char.{code}
use Rattle.std.proofs.Math.Option.{none}
use Rattle.grammar.specs.Grammar.{Class, Part, Grammar, byte, ◌⨾◌, ◌∣◌, opt, up_to, part, just}
use Rattle.grammar.specs.Reading.{Rules}
use Rattle.grammar.specs.Text.{bytes}
use Rattle.octets.specs.Classes.{DIGIT}
use Rattle.octets.specs.Numbers.{number}

pub data Name : Type 0 where
  whole fraction : Name

-- an optional point and up to three bytes of the class
abbrev pub decimals : Class → Grammar Name
decimals c = opt (byte (just (code ".") tt) ⨾ part fraction (up_to 3 (byte c)))

abbrev pub qvalue : Grammar Name
qvalue =
    part whole (byte (just (code "0") tt)) ⨾ decimals DIGIT
    ∣ part whole (byte (just (code "1") tt)) ⨾ decimals (just (code "0") tt)

-- the digits, without the point
abbrev pub all_digits : List (Part Name) → List ℕ
all_digits [] = []
all_digits (c ∷ ps) = c.text ++ all_digits ps

-- the digits, with zeros behind them to four, are the thousandths
abbrev pub thousandths : List (Part Name) → ℕ
thousandths ps = number (take 4 (all_digits ps ++ bytes "000"))

abbrev pub largest : ℕ
largest = 1000

abbrev pub rules : Rules Name ℕ
rules = record { grammar = qvalue; limit = λ k ps. none; fault = λ ps. none; value = thousandths }
