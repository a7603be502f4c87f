-- Strong and weak matches of tags: RFC 2616 13.3.3 as document 01 states it.
use Rattle.std.specs.Prelude.{ℕ, Bool, true, false, ◌&&◌, not, List}
use Rattle.grammar.specs.Comparing.{Comparison, compare}
use Rattle.grammar.specs.helpers.Judge.{header}
use Rattle.octets.specs.Same.{same?}
use Rattle.etag.specs.declared.Tag.{Tag}
use Rattle.etag.specs.Grammar.{rules}
use Rattle.etag.specs.Reading.{opaque_bytes}

-- "Weak match: the bytes alone."
abbrev pub weakly : List ℕ → List ℕ → Tag → Tag → Bool
weakly a b v w = same? (opaque_bytes a v) (opaque_bytes b w)

-- "Strong match: neither is weak and the quoted bytes are the same as sent."
abbrev pub strongly : List ℕ → List ℕ → Tag → Tag → Bool
strongly a b v w = not v.weak && (not w.weak && weakly a b v w)

abbrev pub matches : (strong : Bool) → List ℕ → List ℕ → Tag → Tag → Bool
matches true = strongly
matches false = weakly

abbrev pub matching : (strong : Bool) → List ℕ → List ℕ → Comparison Bool
matching strong a b = compare (matches strong a b) (header rules a) (header rules b)

abbrev pub weak_matching : List ℕ → List ℕ → Comparison Bool
weak_matching a b = matching false a b

abbrev pub strong_matching : List ℕ → List ℕ → Comparison Bool
strong_matching a b = matching true a b
