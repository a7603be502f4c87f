-- Which names the parts of a text can have: a check of the grammar, computed, and what it says of every text.
use Prim.Native.Nat.{ℕ}
use mathlib.Core.Path.{sym, subst}
use mathlib.Core.Bool.{Bool, true, ◌&&◌}
use mathlib.Core.List.{List, [], ◌∷◌, ◌++◌}
use mathlib.Core.Logic.{inl, inr}
use lib.Dec.{T}
use Rattle.grammar.specs.Grammar.{Class, Part, Grammar, void, empty, byte, ◌⨾◌, ◌∣◌, star, part, rest, nest, T-left, T-right}
use Rattle.grammar.specs.Grammar.{Parses, Many, none, more, Nest, out, item, opens, closes, past}

module _ {L : Type 0} (f : L → Bool) where
  -- every name in the grammar is one of f
  abbrev pub labels? : Grammar L → Bool
  labels? void = true
  labels? empty = true
  labels? (byte c) = true
  labels? (g ⨾ h) = labels? g && labels? h
  labels? (g ∣ h) = labels? g && labels? h
  labels? (star g) = labels? g
  labels? (part l g) = f l && labels? g
  labels? (rest c g) = f c.label && labels? g
  labels? (nest o c l m g r n) = f l && (f m && (labels? g && labels? r))

  abbrev pub Labelled : List (Part L) → Type 0
  Labelled [] = Unit {0}
  Labelled (p ∷ ps) = T (f p.label) × Labelled ps

  both : (ps qs : List (Part L)) → Labelled ps → Labelled qs → Labelled (ps ++ qs)
  both [] qs a b = b
  both (p ∷ ps) qs a b = (a.0, both ps qs a.1 b)

  many_labelled : (g : Grammar L) → ((i : ℕ) (s : List ℕ) (ps : List (Part L)) → Parses g i s ps → Labelled ps)
      → (i : ℕ) (s : List ℕ) (ps : List (Part L)) → Many (Parses g) i s ps → Labelled ps
  many_labelled g each i s ps none = tt
  many_labelled g each i s ps (more b t u qs rs p m) = both qs rs (each i (b ∷ t) qs p) (many_labelled g each _ u rs m)

  nest_labelled : (o c : Class) (l m : L) (g : Grammar L) → T (f l) → T (f m)
      → ((i : ℕ) (s : List ℕ) (ps : List (Part L)) → Parses g i s ps → Labelled ps)
      → (n i : ℕ) (s : List ℕ) (ps : List (Part L)) → Nest o c l m (Parses g) n i s ps → Labelled ps
  nest_labelled o c l m g a b each n i s ps out = tt
  nest_labelled o c l m g a b each n i s ps (item x t u qs rs p w) =
      both qs rs (each i (x ∷ t) qs p) (nest_labelled o c l m g a b each _ _ u rs w)
  nest_labelled o c l m g a b each n i s ps (opens x u qs h w) = (a, nest_labelled o c l m g a b each _ _ u qs w)
  nest_labelled o c l m g a b each n i s ps (closes x u qs h w) = (b, nest_labelled o c l m g a b each _ _ u qs w)

  pub all_labelled : (g : Grammar L) → T (labels? g) → (i : ℕ) (s : List ℕ) (ps : List (Part L)) → Parses g i s ps → Labelled ps
  all_labelled void a i s ps p = absurd p
  all_labelled empty a i s ps p = subst Labelled (sym p.1) tt
  all_labelled (byte c) a i s ps p = subst Labelled (sym p.3) tt
  all_labelled (g ⨾ h) a i s ps p =
      subst Labelled (sym p.5)
      (both p.2 p.3 (all_labelled g (T-left (labels? g) (labels? h) a) i p.0 p.2 p.6)
      (all_labelled h (T-right (labels? g) (labels? h) a) (past i p.0) p.1 p.3 p.7))
  all_labelled (g ∣ h) a i s ps (inl p) = all_labelled g (T-left (labels? g) (labels? h) a) i s ps p
  all_labelled (g ∣ h) a i s ps (inr p) = all_labelled h (T-right (labels? g) (labels? h) a) i s ps p
  all_labelled (star g) a i s ps p = many_labelled g (all_labelled g a) i s ps p
  all_labelled (part l g) a i s ps p =
      subst Labelled (sym p.1) (T-left (f l) (labels? g) a, all_labelled g (T-right (f l) (labels? g) a) i s p.0 p.2)
  all_labelled (rest c g) a i s ps p =
      subst Labelled (sym p.1)
      (T-left (f c.label) (labels? g) a, all_labelled g (T-right (f c.label) (labels? g) a) i s p.0 p.2)
  all_labelled (nest o c l m g r n) a i s ps p =
      let behind = T-right (f l) (f m && (labels? g && labels? r)) a in
      let inner = T-right (f m) (labels? g && labels? r) behind in
      subst Labelled (sym p.5)
      (both p.2 p.3 (all_labelled r (T-right (labels? g) (labels? r) inner) i p.0 p.2 p.6)
      (nest_labelled o c l m g (T-left (f l) (f m && (labels? g && labels? r)) a) (T-left (f m) (labels? g && labels? r) behind)
      (all_labelled g (T-left (labels? g) (labels? r) inner)) _ _ p.1 p.3 p.7))
