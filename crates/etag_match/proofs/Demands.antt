-- The theorems of matches of entity tags: what a customer reads. What `header rules` answers is the theorem `reading` of etag.
use Prim.Native.Nat.{ℕ}
use mathlib.Core.Path.{◌≡◌, refl, ap, ap₂, ◌∙◌}
use mathlib.Core.Logic.{◌↔◌}
use mathlib.Core.Bool.{Bool, true, false}
use mathlib.Core.List.{List}
use Rattle.grammar.specs.Grammar.{lower}
use Rattle.grammar.specs.Reading.{value, refused}
use Rattle.grammar.specs.Comparing.{outcome, refused_at, compare}
use Rattle.grammar.specs.Text.{bytes}
use Rattle.grammar.specs.helpers.Judge.{header}
use Rattle.octets.specs.Bytes.{text?, escaped?}
use Rattle.etag.specs.declared.Tag.{Tag}
use Rattle.etag.specs.Grammar.{rules}
use Rattle.etag.specs.Reading.{opaque_bytes}
use Rattle.etag_match.specs.Matching.{matches, matching, weak_matching, strong_matching}
use Rattle.etag_match.proofs.Matching.{matched, match_swap, match_chain, weak_when, strong_when, weaker}

-- The promises of `strong_match` and `weak_match` are `strong_matching a b` and `weak_matching a b`.

module _ (a b : List ℕ) (v w : Tag) (e : header rules a ≡ value v) (f : header rules b ≡ value w) where
  -- "Weak match: the bytes alone."
  pub weak_match : (weak_matching a b ≡ outcome true) ↔ (opaque_bytes a v ≡ opaque_bytes b w)
  weak_match = weak_when a b v w e f

  -- "Strong match: neither is weak and the quoted bytes are the same as sent."
  pub strong_match : (strong_matching a b ≡ outcome true)
      ↔ ((v.weak ≡ false) × (w.weak ≡ false) × (opaque_bytes a v ≡ opaque_bytes b w))
  strong_match = strong_when a b v w e f

  -- Two tags that read are compared, whatever they are: `matching true` is the strong match, and `matching false` the weak one.
  pub compared : (strong : Bool) → matching strong a b ≡ outcome (matches strong a b v w)
  compared strong = matched strong a b v w e f

-- "reads first one, then the other, and a refusal says which it was. Comparisons of versions, language tags, entity tags and media types
-- given as bytes do the same."
pub first-refused : (strong : Bool) (a b : List ℕ) (n p : ℕ) → header rules a ≡ refused n p → matching strong a b ≡ refused_at 1 n p
first-refused strong a b n p e = ap (λ x. compare (matches strong a b) x (header rules b)) e

pub second-refused : (strong : Bool) (a b : List ℕ) (v : Tag) (n p : ℕ) → header rules a ≡ value v → header rules b ≡ refused n p
    → matching strong a b ≡ refused_at 2 n p
second-refused strong a b v n p e f = ap₂ (compare (matches strong a b)) e f

-- A weak match is an equivalence of the tags that read, and a strong match one of the strong tags among them; a weak tag strongly matches
-- nothing, itself included.
pub weak_reflexive : (s : List ℕ) (v : Tag) → header rules s ≡ value v → weak_matching s s ≡ outcome true
weak_reflexive s v e = (weak_match s s v v e e).1 refl

pub strong_reflexive : (s : List ℕ) (v : Tag) → header rules s ≡ value v → v.weak ≡ false → strong_matching s s ≡ outcome true
strong_reflexive s v e w = (strong_match s s v v e e).1 (w, w, refl)

pub symmetric : (strong : Bool) (a b : List ℕ) (t : Bool) → matching strong a b ≡ outcome t → matching strong b a ≡ outcome t
symmetric = match_swap

pub transitive : (strong : Bool) (a b c : List ℕ) → matching strong a b ≡ outcome true → matching strong b c ≡ outcome true
    → matching strong a c ≡ outcome true
transitive = match_chain

pub weak-matches-none : (a b : List ℕ) (v w : Tag) → header rules a ≡ value v → header rules b ≡ value w → v.weak ≡ true
    → strong_matching a b ≡ outcome false
weak-matches-none a b v w e f h = matched true a b v w e f ∙ rw h

-- what matches strongly matches weakly
pub strong_is-weak : (a b : List ℕ) → strong_matching a b ≡ outcome true → weak_matching a b ≡ outcome true
strong_is-weak = weaker

-- `W/"x"` weakly matches `"x"` and does not strongly match it.
pub x_weakly : weak_matching (bytes "W/\"x\"") (bytes "\"x\"") ≡ outcome true
unfolding lower text? escaped?
x_weakly = refl

pub x_not-strongly : strong_matching (bytes "W/\"x\"") (bytes "\"x\"") ≡ outcome false
unfolding lower text? escaped?
x_not-strongly = refl
