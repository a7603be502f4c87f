-- For the contracts of the reader's helpers.
use Rattle.std.specs.Prelude.{ℕ, ◌≤◌, ◌≡◌, false, List, [], ◌∷◌, ltb, length}
use Prim.Native.Char.{code}
use Rattle.grammar.specs.Grammar.{Part, Grammar, byte, ◌⨾◌, plus, part, just}
use Rattle.grammar.specs.helpers.Checks.{ahead}
use Rattle.grammar.specs.helpers.Judge.{header}
use Rattle.grammar.specs.helpers.Scans.{slice, from}
use Rattle.octets.specs.Classes.{DIGIT}
use Rattle.octets.specs.Numbers.{number}
use Rattle.version.specs.Grammar.{Name, major, minor, largest, rules}

-- what follows the major number
abbrev pub point_and_minor : Grammar Name
point_and_minor = byte (just (code ".") tt) ⨾ part minor (plus (byte DIGIT))

abbrev pub major_part : List ℕ → ℕ → Part Name
major_part s e = record { label = major; start = 5; text = slice s 5 e }

-- the major number n stands before the place e, and the answer is what is found from there on
pub record AfterMajor (s : List ℕ) (n e : ℕ) : Type 0 where
  pub within : e ≤ length s
  pub is : number (slice s 5 e) ≡ n
  pub small : ltb largest (number (slice s 5 e)) ≡ false
  pub reads : header rules s ≡ from rules s (ahead (major_part s e ∷ []) point_and_minor) e
