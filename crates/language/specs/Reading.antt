-- Equality of tags.
use Rattle.std.specs.Prelude.{ℕ, Bool, List}
use Rattle.grammar.specs.Comparing.{Comparison, compare}
use Rattle.grammar.specs.helpers.Judge.{header}
use Rattle.octets.specs.Case.{alike}
use Rattle.language.specs.Grammar.{rules}

-- "equality ignores case": of two tags, what is compared is their bytes
abbrev pub equality : List ℕ → List ℕ → Comparison Bool
equality a b = compare (λ v w. alike a b) (header rules a) (header rules b)
