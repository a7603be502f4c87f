-- The theorems of what media types mean and of equality: what a customer reads.
use Prim.Native.Nat.{ℕ}
use Prim.Native.Char.{code}
use mathlib.Core.Path.{◌≡◌, refl, ap, ◌∙◌}
use mathlib.Core.Logic.{◌↔◌}
use mathlib.Core.Bool.{Bool, true, false}
use mathlib.Core.List.{List, ◌∷◌}
use lib.Dec.{T}
use Rattle.grammar.specs.Reading.{Verdict, value, refused, Answers}
use Rattle.grammar.specs.Comparing.{outcome, refused_at}
use Rattle.grammar.specs.helpers.Judge.{header}
use Rattle.grammar.proofs.Demands.{answered_exactly}
use Rattle.grammar.proofs.Comparing.{compare-read, compare_swap, compare_chain}
use Rattle.octets.specs.Bytes.{text?}
use Rattle.octets.specs.Case.{alike}
use Rattle.media.specs.Grammar.{Media, rules}
use Rattle.media.proofs.Parts.{one_way}
use Rattle.media_equal.specs.Meaning.{unescaped, charset_name, Setting, Meaning, meanings}
use Rattle.media_equal.specs.Meaning.{same_setting, has_setting, same_set, same_meaning, Agree}
use Rattle.media_equal.specs.Places.{Says}
use Rattle.media_equal.specs.Reading.{equality}
use Rattle.media_equal.proofs.Unquoted.{no_pair}
use Rattle.media_equal.proofs.Places.{says, says_nothing}
use Rattle.media_equal.proofs.Agreeing.{set_is, setting_is, meaning_self, meaning_either, meaning_chain, equality-is}

-- As `reading` of media: for what a media type means.
pub meaning-read : (s : List ℕ) (v : Verdict Meaning) → (header meanings s ≡ v) ↔ Answers meanings s v
meaning-read = answered_exactly meanings tt tt one_way

-- "The answer gives start and length of each part": the parts lie within the text, and what the media type means is found at
-- their places. A refusal of one is the refusal of the other.
pub places : (s : List ℕ) (m : Media) → header rules s ≡ value m → Says s m
places = says

pub refusals : (s : List ℕ) (n p : ℕ) → header rules s ≡ refused n p → header meanings s ≡ refused n p
refusals = says_nothing

-- ## Equality (the promise of `equal` is `equality a b`)

-- "values are compared after unquoting": a byte of text stands for itself, a pair for its second byte.
pub text-byte : (b : ℕ) (t : List ℕ) → T (text? b) → unescaped (b ∷ t) ≡ b ∷ unescaped t
unfolding text?
text-byte b t h = no_pair b t (λ e. rw e at h)

pub pair-byte : (c : ℕ) (t : List ℕ) → unescaped (code "\\" ∷ c ∷ t) ≡ c ∷ unescaped t
pair-byte c t = refl

-- "names ignore case, values are compared after unquoting, the value of `charset` ignoring case"
pub same_setting-is : (p q : Setting) → (same_setting p q ≡ true)
    ↔ ((alike p.name q.name ≡ true)
    × (alike p.name charset_name ≡ true → alike p.value q.value ≡ true)
    × (alike p.name charset_name ≡ false → p.value ≡ q.value))
same_setting-is = setting_is

-- "the set of parameters agree": a parameter is one of the first just where it is one of the second.
pub same-set-is : (ps qs : List Setting) → (same_set ps qs ≡ true) ↔ ((p : Setting) → has_setting p ps ≡ has_setting p qs)
same-set-is = set_is

-- "Two types are equal when type, subtype and the set of parameters agree": both are well-formed, and what they mean agrees.
pub equal_when : (a b : List ℕ) → (equality a b ≡ outcome true)
    ↔ ((m : Meaning) × (n : Meaning) × (header meanings a ≡ value m) × (header meanings b ≡ value n) × Agree m n)
equal_when = equality-is

-- Two that are well-formed are compared, whatever they are.
pub compared : (a b : List ℕ) (m n : Meaning) → header meanings a ≡ value m → header meanings b ≡ value n
    → equality a b ≡ outcome (same_meaning m n)
compared a b m n = compare-read same_meaning (header meanings a) (header meanings b) m n

-- "reads first one, then the other, and a refusal says which it was. Comparisons of versions, language tags, entity tags and media types
-- given as bytes do the same."
pub first-refused : (a b : List ℕ) (n p : ℕ) → header meanings a ≡ refused n p → equality a b ≡ refused_at 1 n p
first-refused a b n p e = rw e

pub second-refused : (a b : List ℕ) (m : Meaning) (n p : ℕ) → header meanings a ≡ value m → header meanings b ≡ refused n p
    → equality a b ≡ refused_at 2 n p
second-refused a b m n p e f = rw (e, f)

-- Equality is an equivalence of the media types that read.
pub reflexive : (s : List ℕ) (m : Meaning) → header meanings s ≡ value m → equality s s ≡ outcome true
reflexive s m e = compared s s m m e e ∙ ap outcome (meaning_self m)

pub symmetric : (a b : List ℕ) (t : Bool) → equality a b ≡ outcome t → equality b a ≡ outcome t
symmetric a b t = compare_swap same_meaning same_meaning (header meanings a) (header meanings b) t meaning_either

pub transitive : (a b c : List ℕ) → equality a b ≡ outcome true → equality b c ≡ outcome true → equality a c ≡ outcome true
transitive a b c =
    compare_chain same_meaning same_meaning same_meaning (header meanings a) (header meanings b) (header meanings c) true meaning_chain
