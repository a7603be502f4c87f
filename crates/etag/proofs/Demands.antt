-- The theorems of entity tags: what a customer reads.
use Prim.Native.Nat.{ℕ}
use mathlib.Core.Path.{◌≡◌, refl}
use mathlib.Core.Logic.{◌↔◌}
use mathlib.Core.Bool.{false}
use mathlib.Core.List.{List, [], ◌∷◌, ◌++◌}
use lib.Dec.{T}
use Rattle.grammar.specs.Grammar.{Part, Parses, lower}
use Rattle.grammar.specs.Reading.{Verdict, value, refused, Answers}
use Rattle.grammar.specs.Refusals.{MALFORMED}
use Rattle.grammar.specs.Text.{bytes}
use Rattle.grammar.specs.helpers.Judge.{header}
use Rattle.grammar.proofs.Deterministic.{deterministic?}
use Rattle.grammar.proofs.Demands.{answered_exactly}
use Rattle.octets.specs.Bytes.{text?, escaped?}
use Rattle.etag.specs.declared.Tag.{Tag}
use Rattle.etag.specs.Grammar.{Name, entity_tag, rules}
use Rattle.etag.specs.Parts.{TagParts}
use Rattle.etag.proofs.Parts.{tag-parts}

-- no tag can be read in two ways
pub one_way : T (deterministic? entity_tag)
unfolding lower text? escaped?
one_way = tt

-- What `read` answers (its promise is `header rules s`): the value of a well-formed tag, or the refusal of the row that applies first,
-- and nothing else. "optional `W/` in either case, then a quoted string": the grammar; "The place of 1 is the length of the longest
-- beginning that some continuation, limits aside, makes well-formed": `Answers`.
pub reading : (s : List ℕ) (v : Verdict Tag) → (header rules s ≡ v) ↔ Answers rules s v
reading = answered_exactly rules tt tt one_way

-- The value: a tag without a mark is strong and its opaque bytes start at 1, one with a mark is weak and they start at 3, also where there
-- are none; the length is theirs.
pub value-is : (s : List ℕ) (ps : List (Part Name)) → Parses entity_tag 0 s ps → TagParts s ps
value-is = tag-parts

-- `""` is a tag, and `"a\"b"` is one; `W/` ends too early; a pair has no byte 128; an empty text is no tag.
pub none_inside : header rules (bytes "\"\"") ≡ value (record { weak = false; start = 1; length = 0 })
unfolding lower text? escaped?
none_inside = refl

pub pair_inside : header rules (bytes "\"a\\\"b\"") ≡ value (record { weak = false; start = 1; length = 4 })
unfolding lower text? escaped?
pair_inside = refl

pub mark_alone : header rules (bytes "W/") ≡ refused MALFORMED 2
unfolding lower text? escaped?
mark_alone = refl

pub pair-of_128 : header rules (bytes "\"\\" ++ 128 ∷ []) ≡ refused MALFORMED 2
unfolding lower text? escaped?
pair-of_128 = refl

pub empty-text : header rules [] ≡ refused MALFORMED 0
empty-text = refl
