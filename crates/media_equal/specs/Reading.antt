-- What the comparison of two media types answers.
use Rattle.std.specs.Prelude.{ℕ, Bool, List}
use Rattle.grammar.specs.helpers.Judge.{header}
use Rattle.grammar.specs.Comparing.{Comparison, compare}
use Rattle.media_equal.specs.Meaning.{meanings, same_meaning}

-- "Comparisons of versions, language tags, entity tags and media types given as bytes do the same": it "reads first one, then the
-- other", and compares what they mean
abbrev pub equality : (a b : List ℕ) → Comparison Bool
equality a b = compare same_meaning (header meanings a) (header meanings b)
