-- What a media type means, and when two are equal: RFC 2616 3.7 as document 01 states it.
use Rattle.std.specs.Prelude.{ℕ, ◌≡◌, Bool, true, false, cond, ◌&&◌, ◌||◌, List, [], ◌∷◌, eqb}
use Prim.Native.Char.{code}
use Rattle.grammar.specs.Grammar.{Part}
use Rattle.grammar.specs.Reading.{Rules}
use Rattle.grammar.specs.Text.{bytes}
use Rattle.octets.specs.Case.{alike}
use Rattle.octets.specs.Same.{same?}
use Rattle.media.specs.Grammar.{Name, quoted?, valued}

abbrev pub charset_name : List ℕ
charset_name = bytes "charset"

-- between quotes a pair, `\` and a byte, is that byte; no quoted text ends with a single `\`
abbrev pub unescaped : List ℕ → List ℕ
unescaped [] = []
unescaped (b ∷ []) = b ∷ []
unescaped (b ∷ c ∷ s) = cond (eqb b (code "\\")) (c ∷ unescaped s) (b ∷ unescaped (c ∷ s))

-- what a value stands for
abbrev pub unquoted : (in_quotes : Bool) → List ℕ → List ℕ
unquoted true s = unescaped s
unquoted false s = s

pub record Setting : Type 0 where
  pub name : List ℕ
  pub value : List ℕ

pub record Meaning : Type 0 where
  pub type : List ℕ
  pub subtype : List ℕ
  pub settings : List Setting

-- of attributes and values in turn; no media type has an attribute without a value (`MediaParts`)
abbrev pub settings : List (Part Name) → List Setting
settings [] = []
settings (a ∷ []) = []
settings (a ∷ v ∷ ps) = record { name = a.text; value = unquoted (quoted? v.label) v.text } ∷ settings ps

-- every media type has a type and a subtype (`MediaParts`): no reading reaches the first two clauses
abbrev pub meaning : List (Part Name) → Meaning
meaning [] = record { type = []; subtype = []; settings = [] }
meaning (t ∷ []) = record { type = []; subtype = []; settings = [] }
meaning (t ∷ u ∷ ps) = record { type = t.text; subtype = u.text; settings = settings ps }

-- media types read for what they mean
abbrev pub meanings : Rules Name Meaning
meanings = valued meaning

-- ## Equality

-- two texts, letter case ignored or not
abbrev pub same_text : (ignoring-case : Bool) → List ℕ → List ℕ → Bool
same_text true v w = alike v w
same_text false v w = same? v w

-- "names ignore case, values are compared after unquoting, the value of `charset` ignoring case"
abbrev pub same_setting : Setting → Setting → Bool
same_setting p q = alike p.name q.name && same_text (alike p.name charset_name) p.value q.value

-- one of the settings is that one
abbrev pub has_setting : Setting → List Setting → Bool
has_setting p [] = false
has_setting p (q ∷ qs) = same_setting p q || has_setting p qs

-- each of the first is one of the second
abbrev pub has_settings : List Setting → List Setting → Bool
has_settings [] qs = true
has_settings (p ∷ ps) qs = has_setting p qs && has_settings ps qs

-- "Two types are equal when type, subtype and the set of parameters agree"
abbrev pub same_set : List Setting → List Setting → Bool
same_set ps qs = has_settings ps qs && has_settings qs ps

abbrev pub same_meaning : Meaning → Meaning → Bool
same_meaning m n = (alike m.type n.type && alike m.subtype n.subtype) && same_set m.settings n.settings

-- ## For the theorems

-- type, subtype and the set of parameters agree: a parameter is one of the first just where it is one of the second
pub record Agree (m n : Meaning) : Type 0 where
  pub types : alike m.type n.type ≡ true
  pub subtypes : alike m.subtype n.subtype ≡ true
  pub sets : (p : Setting) → has_setting p m.settings ≡ has_setting p n.settings
