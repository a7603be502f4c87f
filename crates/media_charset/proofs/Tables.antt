-- The parameters, one at a time: the charset.
use Prim.Native.Nat.{ℕ, ◌+◌, ◌≤◌, ◌<◌}
use native.Mathlib.Omega.{arith}
use native.Mathlib.Numerals.{add-one}
use mathlib.Core.Path.{◌≡◌, refl, sym, ap, ◌∙◌}
use mathlib.Core.Bool.{Bool, true, false, true≢false}
use mathlib.Core.List.{List, [], ◌∷◌}
use Rattle.std.specs.Prelude.{Result}
use lib.ListN.{length, take, drop, get_or, drop_of_length-le, length-take}
use lib.Seq.{drop-cons}
use Rattle.grammar.specs.Reading.{Verdict, value, refused}
use Rattle.grammar.specs.helpers.Judge.{header}
use Rattle.octets.specs.Case.{alike}
use Rattle.octets.specs.declared.Refusal.{Refusal}
use Rattle.octets.proofs.Entries.{padded-length}
use Rattle.media.specs.declared.Parameter.{Parameter}
use Rattle.media.specs.declared.Media.{Media as MediaRead}
use Rattle.media.specs.Grammar.{Media, rules, parameter_limit, part_at}
use Rattle.media.specs.Reading.{unused, table_of, table_in, Answered}
use Rattle.media_equal.specs.Meaning.{charset_name}
use Rattle.media_charset.specs.Charset.{Effective, stated, latin_1, no_charset, text_type, default_charset}
use Rattle.media_charset.specs.Places.{stated_at}

module _ (s : List ℕ) (u : List Parameter) (i : ℕ) where
  abbrev here : Parameter
  here = get_or u i unused

  pub not-stated : (other : Effective) → length u ≤ i → other ≡ stated_at s other (drop i u)
  not-stated other h = sym (rw (drop_of_length-le u {i = i} h))

  module _ (h : i < length u) where
    first : drop i u ≡ here ∷ drop (i + 1) u
    first = drop-cons u i unused h ∙ ap (λ (j : ℕ). here ∷ drop j u) (sym (add-one i))

    module _ (t : Bool) (other : Effective) (name : List ℕ) (d : name ≡ part_at s here.start here.length) (e : t ≡ alike name charset_name) where
      pub stated-here : t ≡ true → stated here.value_start here.value_length here.quoted ≡ stated_at s other (drop i u)
      stated-here f = sym (rw (first, ← d, sym e ∙ f))

      pub stated-behind : t ≡ false → stated_at s other (drop (i + 1) u) ≡ stated_at s other (drop i u)
      stated-behind f = sym (rw (first, ← d, sym e ∙ f))

-- an index of one of the first n entries, which are all there, of a table of 16
module _ (n : ℕ) (u : List Parameter) (full : length (take n u) ≡ n) (i : ℕ) where
  pub entry-below : length u ≡ parameter_limit → i < n → i < parameter_limit
  entry-below e h = omega (arith, full, length-take n u)

-- ## Without the parameter

pub not_assumed : (a : Bool) (type : List ℕ) → a ≡ false → no_charset ≡ default_charset a type
not_assumed true type h = absurd (true≢false h)
not_assumed false type h = refl

module _ (t : Bool) (type : List ℕ) (e : t ≡ alike type text_type) where
  pub text_default : (a : Bool) → a ≡ true → t ≡ true → latin_1 ≡ default_charset a type
  text_default true h f = sym (rw (sym e ∙ f))
  text_default false h f = absurd (true≢false (sym h))

  pub other_default : (a : Bool) → a ≡ true → t ≡ false → no_charset ≡ default_charset a type
  other_default true h f = sym (rw (sym e ∙ f))
  other_default false h f = refl

-- ## The answer of `read`

-- the table beside any answer has 16 entries
pub table-length : (v : Verdict Media) → length (table_of v) ≡ parameter_limit
table-length (value m) = padded-length unused parameter_limit m.table
table-length (refused n p) = padded-length unused parameter_limit []

-- and so has that of what `read` gives, a refusal's too
pub full-table : (s : List ℕ) (r : Result MediaRead Refusal) → Answered s r → length (table_in r) ≡ parameter_limit
full-table s r e = ap length e.1 ∙ table-length (header rules s)
