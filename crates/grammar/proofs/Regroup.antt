-- Texts of one grammar behind another, put together anew.
use Prim.Native.Nat.{ℕ}
use mathlib.Core.Path.{refl, sym, ap, subst, ◌∙◌}
use mathlib.Core.List.{List, [], ◌∷◌, ◌++◌, append_assoc}
use lib.Dec.{T}
use Rattle.grammar.specs.Grammar.{Part, Grammar, ◌⨾◌, star, Parses, more, past}
use Rattle.grammar.specs.helpers.Derivative.{nullable}
use Rattle.grammar.proofs.Derivative.{past_append}
use Rattle.grammar.proofs.Longest.{nullable-of}

module _ {L : Type 0} (i : ℕ) (s : List ℕ) (ps : List (Part L)) where
  pub regroup : (f g h : Grammar L) → Parses (f ⨾ (g ⨾ h)) i s ps → Parses ((f ⨾ g) ⨾ h) i s ps
  regroup f g h m =
      let n = m.7 in (
        m.0 ++ n.0,
        n.1,
        m.2 ++ n.2,
        n.3,
        m.4 ∙ ap (λ (x : List ℕ). m.0 ++ x) n.4 ∙ sym (append_assoc m.0 n.0 n.1),
        m.5 ∙ ap (λ (x : List (Part L)). m.2 ++ x) n.5 ∙ sym (append_assoc m.2 n.2 n.3),
        (m.0, n.0, m.2, n.2, refl, refl, m.6, n.6),
        subst (λ (k : ℕ). Parses h k n.1 n.3) (sym (past_append i m.0 n.0)) n.7,
      )

  -- a text of g, which has no empty one, and then none, one or more of them
  pub star-more : (g : Grammar L) → (T (nullable g) → ⊥) → Parses (g ⨾ star g) i s ps → Parses (star g) i s ps
  star-more g none m = rw (m.4, m.5) (go m.0 m.6 m.7)
    where
      go : (t : List ℕ) → Parses g i t m.2 → Parses (star g) (past i t) m.1 m.3 → Parses (star g) i (t ++ m.1) (m.2 ++ m.3)
      go [] x y = absurd (none (nullable-of g i m.2 x))
      go (b ∷ t) x y = more b t m.1 m.2 m.3 x y
