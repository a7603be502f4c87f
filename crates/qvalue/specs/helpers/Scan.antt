-- For the contracts of the reader's helpers.
use Rattle.std.specs.Prelude.{ℕ, ◌+◌, ◌-◌, ◌≤◌, ◌≡◌, true, List, [], ◌∷◌, length, get_or}
use Prim.Native.Char.{code}
use Rattle.grammar.specs.Grammar.{Class, Part}
use Rattle.grammar.specs.helpers.Checks.{ahead}
use Rattle.grammar.specs.helpers.Judge.{header}
use Rattle.grammar.specs.helpers.Scans.{from}
use Rattle.octets.specs.Bytes.{digit?}
use Rattle.octets.specs.helpers.Bits.{Bits}
use Rattle.qvalue.specs.Grammar.{Name, whole, decimals, rules}

abbrev pub whole_part : ℕ → Part Name
whole_part w = record { label = whole; start = 0; text = (code "0" + w) ∷ [] }

-- the first digit's value is w, and the answer is what is found behind it, where the decimals are of the class
pub record AfterWhole (s : List ℕ) (w : ℕ) (words : List ℕ) : Type 0 where
  pub class : Class
  pub bits : Bits words class.has
  pub only_digits : (b : ℕ) → class.has b ≡ true → digit? b ≡ true
  pub small : w ≤ 1
  pub some : 1 ≤ length s
  pub reads : header rules s ≡ from rules s (ahead (whole_part w ∷ []) (decimals class)) 1

-- the byte at a place, a zero behind the end, and what it is worth as a digit
abbrev pub byte_or_zero : List ℕ → ℕ → ℕ
byte_or_zero s i = get_or s i (code "0")

abbrev pub digit_value : List ℕ → ℕ → ℕ
digit_value s i = byte_or_zero s i - code "0"
