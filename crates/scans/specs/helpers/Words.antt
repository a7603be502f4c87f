-- A text against a word, letter case ignored.
use Rattle.std.specs.Prelude.{ℕ, Bool, List, ◌==◌}
use Rattle.grammar.specs.Grammar.{lower}
use Rattle.grammar.specs.helpers.Words.{matching}

abbrev pub same_letter : ℕ → ℕ → Bool
same_letter a b = lower b == lower a

-- how many bytes at the front of the text are those of the word, letter case ignored
abbrev pub agreeing : (word text : List ℕ) → ℕ
agreeing w t = matching same_letter w t
