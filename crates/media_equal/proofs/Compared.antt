-- Comparisons in turn: a test that fails, and one that holds; two parameters, from the places that reading gave.
use Prim.Native.Nat.{ℕ}
use mathlib.Core.Path.{◌≡◌, sym, ap₂, ◌∙◌}
use mathlib.Core.Bool.{Bool, true, false, ◌&&◌}
use mathlib.Core.List.{List}
use Rattle.octets.specs.Case.{alike}
use Rattle.media.specs.declared.Parameter.{Parameter}
use Rattle.media.specs.Grammar.{part_at}
use Rattle.media_equal.specs.Meaning.{charset_name, same_text, same_setting}
use Rattle.media_equal.specs.Places.{setting_at}

pub fails : (r x y : Bool) → r ≡ x → r ≡ false → false ≡ (x && y)
fails r x y d e = sym (rw (sym d ∙ e))

pub holds : (r x y : Bool) → r ≡ x → r ≡ true → y ≡ (x && y)
holds r x y d e = sym (rw (sym d ∙ e))

module _ (a b : List ℕ) (p q : Parameter) (x y : List ℕ) (t : Bool) (d : x ≡ part_at a p.start p.length) (e : y ≡ part_at b q.start q.length)
    (f : t ≡ alike x y) where
  names : alike (part_at a p.start p.length) (part_at b q.start q.length) ≡ t
  names = sym (f ∙ ap₂ alike d e)

  pub names-differ : t ≡ false → false ≡ same_setting (setting_at a p) (setting_at b q)
  names-differ g = sym (rw (names, g))

  pub by_values : t ≡ true → (v w : List ℕ) (i r : Bool) → v ≡ (setting_at a p).value → w ≡ (setting_at b q).value
      → i ≡ alike x charset_name → r ≡ same_text i v w → r ≡ same_setting (setting_at a p) (setting_at b q)
  by_values g v w i r h k m n = n ∙ sym (rw (names, g, ← d, ← m, ← h, ← k))
