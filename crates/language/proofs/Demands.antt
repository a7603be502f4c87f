-- The theorems of language tags: what a customer reads.
use Prim.Native.Nat.{ℕ}
use mathlib.Core.Path.{◌≡◌, refl, ap, ap₂, ◌∙◌}
use mathlib.Core.Logic.{◌↔◌}
use mathlib.Core.Bool.{Bool, true}
use mathlib.Core.List.{List}
use lib.Dec.{T}
use Rattle.grammar.specs.Grammar.{Part, Parses, lower}
use Rattle.grammar.specs.Reading.{Verdict, value, refused, Answers}
use Rattle.grammar.specs.Comparing.{outcome, refused_at, compare}
use Rattle.grammar.specs.Refusals.{MALFORMED}
use Rattle.grammar.specs.Text.{bytes}
use Rattle.grammar.specs.helpers.Judge.{header}
use Rattle.grammar.proofs.Deterministic.{deterministic?}
use Rattle.grammar.proofs.Demands.{answered_exactly}
use Rattle.grammar.proofs.Comparing.{compare-read, compare_swap, compare_chain}
use Rattle.octets.specs.Bytes.{letter?}
use Rattle.octets.specs.Case.{alike}
use Rattle.octets.proofs.Alike.{alike_self, alike_swap, alike_chain}
use Rattle.language.specs.declared.Tag.{Tag}
use Rattle.language.specs.Grammar.{Name, language, rules}
use Rattle.language.specs.Parts.{TagParts}
use Rattle.language.specs.Reading.{equality}
use Rattle.language.proofs.Parts.{tag-parts}

one_way : T (deterministic? language)
unfolding letter?
one_way = tt

-- What `read` answers (its promise is `header rules s`): the value of a well-formed tag, or the refusal of the row that applies first,
-- and nothing else. "parts of 1 to 8 letters joined by `-`": the grammar; "The place of 1 is the length of the longest beginning that
-- some continuation, limits aside, makes well-formed": `Answers`.
pub reading : (s : List ℕ) (v : Verdict Tag) → (header rules s ≡ v) ↔ Answers rules s v
reading = answered_exactly rules tt tt one_way

-- The parts that are counted are a primary one, whose length is given, and subtags.
pub parts_are : (s : List ℕ) (ps : List (Part Name)) → Parses language 0 s ps → TagParts ps
parts_are = tag-parts

-- What `equal` answers (its promise is `equality a b`). "equality ignores case": two tags that read are equal just where their bytes are
-- the same, letter case ignored.
pub equal-bytes : (a b : List ℕ) (v w : Tag) → header rules a ≡ value v → header rules b ≡ value w → equality a b ≡ outcome (alike a b)
equal-bytes a b v w e f = compare-read (λ x y. alike a b) (header rules a) (header rules b) v w e f

-- "reads first one, then the other, and a refusal says which it was. Comparisons of versions, language tags, entity tags and media types
-- given as bytes do the same."
pub first-refused : (a b : List ℕ) (n p : ℕ) → header rules a ≡ refused n p → equality a b ≡ refused_at 1 n p
first-refused a b n p e = ap (λ x. compare (λ v w. alike a b) x (header rules b)) e

pub second-refused : (a b : List ℕ) (v : Tag) (n p : ℕ) → header rules a ≡ value v → header rules b ≡ refused n p
    → equality a b ≡ refused_at 2 n p
second-refused a b v n p e f = ap₂ (compare (λ t u. alike a b)) e f

-- Equality is an equivalence of the tags that read.
pub reflexive : (s : List ℕ) (v : Tag) → header rules s ≡ value v → equality s s ≡ outcome true
reflexive s v e = equal-bytes s s v v e e ∙ ap outcome (alike_self s)

pub symmetric : (a b : List ℕ) (t : Bool) → equality a b ≡ outcome t → equality b a ≡ outcome t
symmetric a b t = compare_swap (λ v w. alike a b) (λ v w. alike b a) (header rules a) (header rules b) t (λ v w. alike_swap a b)

pub transitive : (a b c : List ℕ) → equality a b ≡ outcome true → equality b c ≡ outcome true → equality a c ≡ outcome true
transitive a b c =
    compare_chain (λ v w. alike a b) (λ v w. alike b c) (λ v w. alike a c) (header rules a) (header rules b) (header rules c) true
    (λ u v w. alike_chain a b c)

-- `en` has one part, of two letters; `en-` ends too early; a part has no ninth letter; `en-US` equals `EN-us`.
pub one-part : header rules (bytes "en") ≡ value (record { parts = 1; primary_length = 2 })
unfolding letter?
one-part = refl

pub no_last-part : header rules (bytes "en-") ≡ refused MALFORMED 3
unfolding letter?
no_last-part = refl

pub ninth_letter : header rules (bytes "abcdefghi") ≡ refused MALFORMED 8
unfolding letter?
ninth_letter = refl

pub either_case : equality (bytes "en-US") (bytes "EN-us") ≡ outcome true
unfolding letter? lower
either_case = refl
