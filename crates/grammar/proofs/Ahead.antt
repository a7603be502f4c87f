-- Parts that have ended stay in front of what is left of the grammar.
use Prim.Native.Nat.{ℕ}
use mathlib.Core.Path.{◌≡◌, refl, sym, ap, ◌∙◌}
use mathlib.Core.Bool.{true, true≢false}
use mathlib.Core.List.{List, [], ◌∷◌, ◌++◌}
use Rattle.grammar.specs.Grammar.{Part, Grammar, void, empty, ◌⨾◌, rest}
use Rattle.grammar.specs.helpers.Derivative.{deriv, ends, then, live, nullable}
use Rattle.grammar.specs.helpers.Judge.{held}
use Rattle.grammar.specs.helpers.Checks.{clear?, ahead}
use Rattle.grammar.proofs.Forms.{then-all}

module _ {L : Type 0} where
  module _ (c : Part L) where
    -- a law of a part that has ended, and of what stands behind it
    behind : (P : Grammar L → Grammar L → Type 0) → P void void → P empty (rest c empty) → ((h : Grammar L) → P h (rest c empty ⨾ h))
        → (h : Grammar L) → P h (then (rest c empty) h)
    behind P u v w h = then-all (λ g h k. g ≡ rest c empty → P h k) (λ g e. u) (λ g e. rw e v) (λ g h e. rw e (w h)) (rest c empty) h refl

    then-deriv : (h : Grammar L) (i b : ℕ) → deriv (then (rest c empty) h) i b ≡ then (rest c empty) (deriv h i b)
    then-deriv h i b = behind (λ h k. deriv k i b ≡ then (rest c empty) (deriv h i b)) refl refl (λ h. refl) h

    then-ends : (h : Grammar L) (i : ℕ) → ends (then (rest c empty) h) i ≡ then (rest c empty) (ends h i)
    then-ends h i = behind (λ h k. ends k i ≡ then (rest c empty) (ends h i)) refl refl (λ h. refl) h

    then_clear : (h : Grammar L) → clear? (then (rest c empty) h) ≡ clear? h
    then_clear = behind (λ h k. clear? k ≡ clear? h) refl refl (λ h. refl)

    then-live : (h : Grammar L) → live (then (rest c empty) h) ≡ live h
    then-live = behind (λ h k. live k ≡ live h) refl refl (λ h. refl)

    then-nullable : (h : Grammar L) → nullable (then (rest c empty) h) ≡ nullable h
    then-nullable = behind (λ h k. nullable k ≡ nullable h) refl refl (λ h. refl)

    then-held : (h : Grammar L) → live h ≡ true → held (then (rest c empty) h) ≡ c ∷ held h
    then-held = behind (λ h k. live h ≡ true → held k ≡ c ∷ held h) (λ l. absurd (true≢false (sym l))) (λ l. refl) (λ h l. refl)

  pub ahead-deriv : (cs : List (Part L)) (g : Grammar L) (i b : ℕ) → deriv (ahead cs g) i b ≡ ahead cs (deriv g i b)
  ahead-deriv [] g i b = refl
  ahead-deriv (c ∷ cs) g i b = then-deriv c (ahead cs g) i b ∙ ap (then (rest c empty)) (ahead-deriv cs g i b)

  pub ahead-ends : (cs : List (Part L)) (g : Grammar L) (i : ℕ) → ends (ahead cs g) i ≡ ahead cs (ends g i)
  ahead-ends [] g i = refl
  ahead-ends (c ∷ cs) g i = then-ends c (ahead cs g) i ∙ ap (then (rest c empty)) (ahead-ends cs g i)

  pub ahead-void : (cs : List (Part L)) → ahead cs void ≡ void
  ahead-void [] = refl
  ahead-void (c ∷ cs) = rw (ahead-void cs)

  -- a part that has just ended
  pub ahead-one : (cs : List (Part L)) (c : Part L) (g : Grammar L) → ahead (cs ++ c ∷ []) g ≡ ahead cs (then (rest c empty) g)
  ahead-one [] c g = refl
  ahead-one (d ∷ cs) c g = ap (then (rest d empty)) (ahead-one cs c g)

  pub ahead_clear : (cs : List (Part L)) (g : Grammar L) → clear? (ahead cs g) ≡ clear? g
  ahead_clear [] g = refl
  ahead_clear (c ∷ cs) g = then_clear c (ahead cs g) ∙ ahead_clear cs g

  pub ahead-live : (cs : List (Part L)) (g : Grammar L) → live (ahead cs g) ≡ live g
  ahead-live [] g = refl
  ahead-live (c ∷ cs) g = then-live c (ahead cs g) ∙ ahead-live cs g

  pub ahead-nullable : (cs : List (Part L)) (g : Grammar L) → nullable (ahead cs g) ≡ nullable g
  ahead-nullable [] g = refl
  ahead-nullable (c ∷ cs) g = then-nullable c (ahead cs g) ∙ ahead-nullable cs g

  pub ahead-held : (cs : List (Part L)) (g : Grammar L) → live g ≡ true → held (ahead cs g) ≡ cs ++ held g
  ahead-held [] g l = refl
  ahead-held (c ∷ cs) g l = then-held c (ahead cs g) (ahead-live cs g ∙ l) ∙ ap (λ (k : List (Part L)). c ∷ k) (ahead-held cs g l)
