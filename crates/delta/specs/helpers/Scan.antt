-- For the contracts of the reader's helpers.
use Rattle.std.specs.Prelude.{ℕ, ◌≡◌, List, [], ◌∷◌}
use Rattle.grammar.specs.Grammar.{Part, empty}
use Rattle.grammar.specs.helpers.Checks.{ahead}
use Rattle.grammar.specs.helpers.Judge.{header}
use Rattle.grammar.specs.helpers.Scans.{slice, from}
use Rattle.delta.specs.declared.Seconds.{Seconds}
use Rattle.delta.specs.Grammar.{Name, seconds, seconds_of, rules}

abbrev pub seconds_part : List ℕ → ℕ → Part Name
seconds_part s e = record { label = seconds; start = 0; text = slice s 0 e }

-- digits that mean v stand before the place e, and the answer is what is found from there on
pub record AfterDigits (s : List ℕ) (v : Seconds) (e : ℕ) : Type 0 where
  pub is : seconds_of (slice s 0 e) ≡ v
  pub reads : header rules s ≡ from rules s (ahead (seconds_part s e ∷ []) empty) e
