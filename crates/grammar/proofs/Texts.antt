-- Texts of a class again and again, and of a word in any letter case: made, and taken apart.
use Prim.Native.Nat.{ℕ, suc}
use mathlib.Core.Path.{◌≡◌, refl, sym, ap, subst, ◌∙◌}
use mathlib.Core.Bool.{Bool}
use mathlib.Core.List.{List, [], ◌∷◌, ◌++◌, head-eq_of_cons-eq, tail-eq_of_cons-eq}
use lib.Dec.{T, ltb, eqb_refl}
use lib.ListN.{length}
use Rattle.grammar.specs.Grammar.{Class, Part, Grammar, byte, star, plus, spell, Parses, none, more, past, bytes?, lower, T-right}

-- each byte passes the test
abbrev pub Each : (ℕ → Bool) → List ℕ → Type 0
Each p [] = Unit {0}
Each p (b ∷ s) = T (p b) × Each p s

module _ {L : Type 0} where
  pub star-made : (c : Class) (i : ℕ) (s : List ℕ) → Each c.has s → Parses {L = L} (star (byte c)) i s []
  star-made c i [] h = none
  star-made c i (b ∷ s) h = more b [] s [] [] (b, refl, h.0, refl) (star-made c (suc i) s h.1)

  pub star-each : (c : Class) (i : ℕ) (s : List ℕ) (ps : List (Part L)) → Parses (star (byte c)) i s ps → Each c.has s
  star-each c i s ps none = tt
  star-each c i s ps (more b t u qs rs m n) =
      let rest = star-each c (past (suc i) t) u rs n in
      subst (λ (l : List ℕ). Each c.has (b ∷ (l ++ u))) (sym (tail-eq_of_cons-eq m.1))
      (subst (λ (a : ℕ). T (c.has a)) (sym (head-eq_of_cons-eq m.1)) m.2, rest)

  pub plus-made : (c : Class) (i b : ℕ) (s : List ℕ) → Each c.has (b ∷ s) → Parses {L = L} (plus (byte c)) i (b ∷ s) []
  plus-made c i b s h = (b ∷ [], s, [], [], refl, refl, (b, refl, h.0, refl), star-made c (suc i) s h.1)

  pub plus-each : (c : Class) (i : ℕ) (s : List ℕ) (ps : List (Part L)) → Parses (plus (byte c)) i s ps
      → (b : ℕ) × (t : List ℕ) × (s ≡ b ∷ t) × Each c.has (b ∷ t)
  plus-each c i s ps m =
      let b = m.6 in
      (b.0, m.1, m.4 ∙ ap (λ (l : List ℕ). l ++ m.1) b.1, (b.2, star-each c (past i m.0) m.1 m.3 m.7))

  pub spell-made : (l : List ℕ) (p : T (bytes? l)) (g : Grammar L) (i : ℕ) (s : List ℕ) (ps : List (Part L)) → Parses g (past i l) s ps
      → Parses (spell l p g) i (l ++ s) ps
  spell-made [] p g i s ps m = m
  spell-made (b ∷ l) p g i s ps m =
      (b ∷ [], l ++ s, [], ps, refl, refl, (b, refl, eqb_refl (lower b), refl), spell-made l (T-right (ltb b 256) (bytes? l) p) g (suc i) s ps m)

  pub spell-taken : (l : List ℕ) (p : T (bytes? l)) (g : Grammar L) (i : ℕ) (s : List ℕ) (ps : List (Part L)) → Parses (spell l p g) i s ps
      → (v : List ℕ) × (t : List ℕ) × (s ≡ v ++ t) × (length v ≡ length l) × Parses g (past i l) t ps
  spell-taken [] p g i s ps m = ([], s, refl, refl, m)
  spell-taken (b ∷ l) p g i s ps m =
      let a = m.6 in
      let e : past i m.0 ≡ suc i = ap (past i) a.1 in
      let f : ps ≡ m.3 = m.5 ∙ ap (λ (qs : List (Part L)). qs ++ m.3) a.3 in
      let parse = subst (λ (j : ℕ). Parses (spell l (T-right (ltb b 256) (bytes? l) p) g) j m.1 m.3) e m.7 in
      let w = spell-taken l (T-right (ltb b 256) (bytes? l) p) g (suc i) m.1 m.3 parse in (
        a.0 ∷ w.0,
        w.1,
        m.4 ∙ ap (λ (t : List ℕ). t ++ m.1) a.1 ∙ ap (λ (t : List ℕ). a.0 ∷ t) w.2,
        ap suc w.3,
        subst (λ (qs : List (Part L)). Parses g (past (suc i) l) w.1 qs) (sym f) w.4,
      )
