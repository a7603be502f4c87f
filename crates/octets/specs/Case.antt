-- Letter case ignored. `lower` is the letter case of RFC 2616 2.1: the capitals A to Z as the small letters.
use Rattle.std.specs.Prelude.{ℕ, Bool, List}
use Rattle.grammar.specs.Grammar.{lower}
use Rattle.octets.specs.Same.{same_by}

-- the same bytes, letter case ignored
abbrev pub alike : List ℕ → List ℕ → Bool
alike s t = same_by lower s t
