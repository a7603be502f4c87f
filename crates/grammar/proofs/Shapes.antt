-- What a byte leaves of the shapes that readers are made of.
use Prim.Native.Nat.{ℕ, suc}
use mathlib.Core.Path.{◌≡◌, refl}
use mathlib.Core.Bool.{Bool, true, false, cond}
use mathlib.Core.List.{List, [], ◌∷◌}
use lib.Dec.{T}
use Rattle.grammar.specs.Grammar.{Class, Part, Grammar, void, empty, byte, ◌⨾◌, ◌∣◌, star, part, rest, nest, plus, past, grown}
use Rattle.grammar.specs.helpers.Derivative.{deriv, ends, residual, then, seq, alt, during}
use Rattle.grammar.specs.helpers.Checks.{clear?}

module _ {L : Type 0} where
  pub alt-void : (g : Grammar L) → alt g void ≡ g
  alt-void void = refl
  alt-void empty = refl
  alt-void (byte c) = refl
  alt-void (g ⨾ h) = refl
  alt-void (g ∣ h) = refl
  alt-void (star g) = refl
  alt-void (part l g) = refl
  alt-void (rest c g) = refl
  alt-void (nest o c l m g r n) = refl

  pub seq-void : (g : Grammar L) → seq g void ≡ void
  seq-void void = refl
  seq-void empty = refl
  seq-void (byte c) = refl
  seq-void (g ⨾ h) = rw (seq-void h) (seq-void g)
  seq-void (g ∣ h) = refl
  seq-void (star g) = refl
  seq-void (part l g) = refl
  seq-void (rest c g) = refl
  seq-void (nest o c l m g r n) = refl

  -- g is not void; at a grammar that is written out, `λ x. refl`
  abbrev pub Solid : Grammar L → Type 0
  Solid g = (x : Grammar L) → then x g ≡ x ⨾ g

  module _ (c : Class) (i b : ℕ) where
    pub byte_step : (g : Grammar L) → deriv (byte c ⨾ g) i b ≡ cond (c.has b) g void
    byte_step g = go (c.has b)
      where
        go : (t : Bool) → alt (seq (cond t empty void) g) void ≡ cond t g void
        go true = alt-void g
        go false = refl

    -- one or more of a class, as a part
    pub part_step : (l : L) (g : Grammar L) → Solid g
        → deriv (part l (plus (byte c)) ⨾ g) i b ≡ cond (c.has b) (rest (record { label = l; start = i; text = b ∷ [] }) (star (byte c)) ⨾ g) void
    part_step l g solid = go (c.has b)
      where
        p : Part L
        p = record { label = l; start = i; text = b ∷ [] }

        go : (t : Bool)
            → alt (seq (during p (alt (seq (cond t empty void) (star (byte c))) void)) g) void ≡ cond t (rest p (star (byte c)) ⨾ g) void
        go true = rw (solid (rest p (star (byte c))))
        go false = refl

    pub part-last : (l : L)
        → deriv (part l (plus (byte c))) i b ≡ cond (c.has b) (rest (record { label = l; start = i; text = b ∷ [] }) (star (byte c))) void
    part-last l = go (c.has b)
      where
        p : Part L
        p = record { label = l; start = i; text = b ∷ [] }

        go : (t : Bool) → during p (alt (seq (cond t empty void) (star (byte c))) void) ≡ cond t (rest p (star (byte c))) void
        go true = refl
        go false = refl

    -- a part goes on, or what follows it begins, and no byte does both
    pub rest-step : (p : Part L) (g : Grammar L) → Solid g → (c.has b ≡ true → deriv g i b ≡ void)
        → deriv (rest p (star (byte c)) ⨾ g) i b ≡ cond (c.has b) (rest (grown p (b ∷ [])) (star (byte c)) ⨾ g) (then (rest p empty) (deriv g i b))
    rest-step p g solid apart = go (c.has b) refl
      where
        go : (t : Bool) → c.has b ≡ t
            → alt (seq (during (grown p (b ∷ [])) (seq (cond t empty void) (star (byte c)))) g) (then (rest p empty) (deriv g i b))
            ≡ cond t (rest (grown p (b ∷ [])) (star (byte c)) ⨾ g) (then (rest p empty) (deriv g i b))
        go true e = rw (solid (rest (grown p (b ∷ [])) (star (byte c))), apart e)
        go false e = refl

    pub rest-last : (p : Part L) → deriv (rest p (star (byte c))) i b ≡ cond (c.has b) (rest (grown p (b ∷ [])) (star (byte c))) void
    rest-last p = go (c.has b)
      where
        go : (t : Bool)
            → during (grown p (b ∷ [])) (seq (cond t empty void) (star (byte c))) ≡ cond t (rest (grown p (b ∷ [])) (star (byte c))) void
        go true = refl
        go false = refl

  -- after a part that has ended
  pub past-step : (p : Part L) (g : Grammar L) (i b : ℕ) → deriv (rest p empty ⨾ g) i b ≡ then (rest p empty) (deriv g i b)
  past-step p g i b = refl

  -- A machine: what is left of the grammar in each state, and a step to a state. Where each state is clear, so is the grammar.
  module _ {Q : Type 0} (left : Q → Grammar L) (step : Q → ℕ → ℕ → Q) (law : (q : Q) (i b : ℕ) → left (step q i b) ≡ deriv (left q) i b)
      (good : (q : Q) (i : ℕ) → T (clear? (left q)) × T (clear? (ends (left q) i))) where
    pub steady-of : (p : List ℕ) (q : Q) (i : ℕ) → T (clear? (residual (left q) i p)) × T (clear? (ends (residual (left q) i p) (past i p)))
    steady-of [] q i = good q i
    steady-of (b ∷ p) q i = rw (← law q i b) (steady-of p (step q i b) (suc i))
