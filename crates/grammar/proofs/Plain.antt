-- Grammars without named parts: their texts add no part, so that the parts of a whole text are those of its other pieces.
use Prim.Native.Nat.{ℕ}
use mathlib.Core.Path.{◌≡◌, refl, sym, ap, ap₂, subst, ◌∙◌}
use mathlib.Core.List.{List, [], ◌∷◌, ◌++◌, append-nil}
use mathlib.Core.Logic.{inl, inr}
use Rattle.grammar.specs.Grammar.{Class, Part, Grammar, empty, byte, ◌⨾◌, ◌∣◌, star, part, Parses, Many, none, more, past}

module _ {L : Type 0} where
  abbrev pub Plain : Grammar L → Type 0
  Plain g = (i : ℕ) (s : List ℕ) (ps : List (Part L)) → Parses g i s ps → ps ≡ []

  nothing : (ps qs rs : List (Part L)) → ps ≡ qs ++ rs → qs ≡ [] → rs ≡ [] → ps ≡ []
  nothing ps qs rs e f g = e ∙ ap₂ (λ (x y : List (Part L)). x ++ y) f g

  pub plain-empty : Plain empty
  plain-empty i s ps p = p.1

  pub plain_byte : (c : Class) → Plain (byte c)
  plain_byte c i s ps p = p.3

  pub plain-seq : (g h : Grammar L) → Plain g → Plain h → Plain (g ⨾ h)
  plain-seq g h f k i s ps p = nothing ps p.2 p.3 p.5 (f i p.0 p.2 p.6) (k (past i p.0) p.1 p.3 p.7)

  pub plain_either : (g h : Grammar L) → Plain g → Plain h → Plain (g ∣ h)
  plain_either g h f k i s ps (inl p) = f i s ps p
  plain_either g h f k i s ps (inr p) = k i s ps p

  many_plain : (g : Grammar L) → Plain g → (i : ℕ) (s : List ℕ) (ps : List (Part L)) → Many (Parses g) i s ps → ps ≡ []
  many_plain g f i s ps none = refl
  many_plain g f i s ps (more b t u qs rs p m) = nothing (qs ++ rs) qs rs refl (f i (b ∷ t) qs p) (many_plain g f _ u rs m)

  pub plain-star : (g : Grammar L) → Plain g → Plain (star g)
  plain-star g f i s ps p = many_plain g f i s ps p

  -- the parts of g behind a text of a plain grammar, and before one; a part of a plain text
  pub behind-plain : (g h : Grammar L) → Plain g → (i : ℕ) (s : List ℕ) (ps : List (Part L)) → Parses (g ⨾ h) i s ps
      → (j : ℕ) × (u : List ℕ) × Parses h j u ps
  behind-plain g h f i s ps p =
      let e : p.3 ≡ ps = sym (p.5 ∙ ap (λ (x : List (Part L)). x ++ p.3) (f i p.0 p.2 p.6)) in
      (past i p.0, p.1, subst (Parses h (past i p.0) p.1) e p.7)

  pub before-plain : (g h : Grammar L) → Plain h → (i : ℕ) (s : List ℕ) (ps : List (Part L)) → Parses (g ⨾ h) i s ps
      → (t : List ℕ) × Parses g i t ps
  before-plain g h f i s ps p =
      let e : p.2 ≡ ps = sym (p.5 ∙ ap (λ (x : List (Part L)). p.2 ++ x) (f (past i p.0) p.1 p.3 p.7) ∙ append-nil p.2) in
      (p.0, subst (Parses g i p.0) e p.6)

  pub plain-part : (l : L) (g : Grammar L) → Plain g → (i : ℕ) (s : List ℕ) (ps : List (Part L)) → Parses (part l g) i s ps
      → ps ≡ record { label = l; start = i; text = s } ∷ []
  plain-part l g f i s ps p = p.1 ∙ ap (λ (qs : List (Part L)). record { label = l; start = i; text = s } ∷ qs) (f i s p.0 p.2)

  -- the parts of both, one after the other
  pub both-parts : (g h : Grammar L) (i : ℕ) (s : List ℕ) (ps : List (Part L)) → Parses (g ⨾ h) i s ps
      → (t : List ℕ) × (j : ℕ) × (u : List ℕ) × (qs : List (Part L)) × (rs : List (Part L)) × (ps ≡ qs ++ rs) × Parses g i t qs × Parses h j u rs
  both-parts g h i s ps p = (p.0, past i p.0, p.1, p.2, p.3, p.5, p.6, p.7)
