-- What is live has a text; a beginning is live just if what is left of the grammar after it is live.
use Prim.Native.Nat.{ℕ, zero, suc, ◌+◌}
use native.Mathlib.Omega.{arith}
use mathlib.Core.Path.{◌≡◌, refl, ◌∙◌}
use mathlib.Core.Logic.{inl, inr, ◌↔◌, ⊎_elim}
use mathlib.Core.Bool.{true}
use mathlib.Core.List.{List, [], ◌∷◌, ◌++◌, append_assoc}
use lib.Dec.{T, ltb}
use lib.ListN.{length}
use Rattle.grammar.specs.Grammar.{Class, Part, Grammar, void, empty, byte, ◌⨾◌, ◌∣◌, star, part, rest, nest, Nest, out}
use Rattle.grammar.specs.Grammar.{closes, Parses, none, past, grown, bytes?, T-left, T-right}
use Rattle.grammar.specs.Beginnings.{Live}
use Rattle.grammar.specs.helpers.Derivative.{live, nullable, deriv, residual}
use Rattle.grammar.proofs.Derivative.{T-both, T_or, T_case, seq_nil, no_nest, split_nil, residual-means}

bytes_append : (t u : List ℕ) → T (bytes? t) → T (bytes? u) → T (bytes? (t ++ u))
bytes_append [] u p q = q
bytes_append (b ∷ t) u p q =
    T-both (ltb b 256) (bytes? (t ++ u)) (T-left (ltb b 256) (bytes? t) p) (bytes_append t u (T-right (ltb b 256) (bytes? t) p) q)

pub past-length : (i : ℕ) (s : List ℕ) → past i s ≡ i + length s
past-length i [] = omega arith
past-length i (b ∷ s) = past-length (suc i) s ∙ omega arith

pub past_snoc : (i : ℕ) (s : List ℕ) (b : ℕ) → past i (s ++ b ∷ []) ≡ suc (past i s)
past_snoc i [] b = refl
past_snoc i (a ∷ s) b = past_snoc (suc i) s b

module _ {L : Type 0} where
  pub residual_snoc : (g : Grammar L) (i : ℕ) (s : List ℕ) (b : ℕ) → residual g i (s ++ b ∷ []) ≡ deriv (residual g i s) (past i s) b
  residual_snoc g i [] b = refl
  residual_snoc g i (a ∷ s) b = residual_snoc (deriv g i a) (suc i) s b

  -- `live` is to have a text, `nullable` to have the empty one
  pub live_of : (g : Grammar L) (i : ℕ) (s : List ℕ) (ps : List (Part L)) → Parses g i s ps → T (live g)
  live_of void i s ps m = m
  live_of empty i s ps m = tt
  live_of (byte c) i s ps m = tt
  live_of (g ⨾ h) i s ps m = T-both (live g) (live h) (live_of g i m.0 m.2 m.6) (live_of h (past i m.0) m.1 m.3 m.7)
  live_of (g ∣ h) i s ps (inl m) = T_or (live g) (live h) (inl (live_of g i s ps m))
  live_of (g ∣ h) i s ps (inr m) = T_or (live g) (live h) (inr (live_of h i s ps m))
  live_of (star g) i s ps m = tt
  live_of (part l g) i s ps m = live_of g i s m.0 m.2
  live_of (rest c g) i s ps m = live_of g i s m.0 m.2
  live_of (nest o c l m g r n) i s ps k = live_of r i k.0 k.2 k.6

  abbrev Text : Grammar L → ℕ → Type 0
  Text g i = (t : List ℕ) × (ps : List (Part L)) × T (bytes? t) × Parses g i t ps

  -- open levels are closed by so many closing bytes
  closing : (o c : Class) (l m : L) (P : ℕ → List ℕ → List (Part L) → Type 0) (n i : ℕ)
      → (t : List ℕ) × (ps : List (Part L)) × T (bytes? t) × Nest o c l m P n i t ps
  closing o c l m P zero i = ([], [], tt, out)
  closing o c l m P (suc n) i =
      let y = closing o c l m P n (suc i) in (
        c.some ∷ y.0,
        record { label = m; start = i; text = c.some ∷ [] } ∷ y.1,
        T-both (ltb c.some 256) (bytes? y.0) (c.below c.some c.holds) y.2,
        closes c.some y.0 y.1 c.holds y.3,
      )

  pub text_of : (g : Grammar L) (i : ℕ) → T (live g) → Text g i
  text_of void i p = absurd p
  text_of empty i p = ([], [], tt, (refl, refl))
  text_of (byte c) i p =
      (c.some ∷ [], [], T-both (ltb c.some 256) true (c.below c.some c.holds) tt, (c.some, refl, c.holds, refl))
  text_of (g ⨾ h) i p =
      let x = text_of g i (T-left (live g) (live h) p) in
      let y = text_of h (past i x.0) (T-right (live g) (live h) p) in
      (x.0 ++ y.0, x.1 ++ y.1, bytes_append x.0 y.0 x.2 y.2, (x.0, y.0, x.1, y.1, refl, refl, x.3, y.3))
  text_of (g ∣ h) i p =
      ⊎_elim (λ q. let x = text_of g i q in (x.0, x.1, x.2, inl x.3)) (λ q. let x = text_of h i q in (x.0, x.1, x.2, inr x.3))
      (T_case (live g) (live h) p)
  text_of (star g) i p = ([], [], tt, none)
  text_of (part l g) i p =
      let x = text_of g i p in
      (x.0, record { label = l; start = i; text = x.0 } ∷ x.1, x.2, (x.1, refl, x.3))
  text_of (rest c g) i p =
      let x = text_of g i p in
      (x.0, grown c x.0 ∷ x.1, x.2, (x.1, refl, x.3))
  text_of (nest o c l m g r n) i p =
      let x = text_of r i p in
      let y = closing o c l m (Parses g) (suc n) (past i x.0) in
      (x.0 ++ y.0, x.1 ++ y.1, bytes_append x.0 y.0 x.2 y.2, (x.0, y.0, x.1, y.1, refl, refl, x.3, y.3))

  pub nullable-of : (g : Grammar L) (i : ℕ) (ps : List (Part L)) → Parses g i [] ps → T (nullable g)
  nullable-of void i ps m = m
  nullable-of empty i ps m = tt
  nullable-of (byte c) i ps m = let e : ◌≡◌ {A = ℕ} 0 1 = cc m.1 in absurd (omega arith)
  nullable-of (g ⨾ h) i ps m =
      let z = seq_nil g h i ps m.0 m.1 m.2 m.3 m.4 m.5 m.6 m.7 in
      T-both (nullable g) (nullable h) (nullable-of g i z.0 z.3) (nullable-of h i z.1 z.4)
  nullable-of (g ∣ h) i ps (inl m) = T_or (nullable g) (nullable h) (inl (nullable-of g i ps m))
  nullable-of (g ∣ h) i ps (inr m) = T_or (nullable g) (nullable h) (inr (nullable-of h i ps m))
  nullable-of (star g) i ps m = tt
  nullable-of (part l g) i ps m = nullable-of g i m.0 m.2
  nullable-of (rest c g) i ps m = nullable-of g i m.0 m.2
  nullable-of (nest o c l m g r n) i ps k =
      absurd (no_nest o c l m (Parses g) n (past i k.0) k.1 k.3 k.7 (split_nil k.0 k.1 k.4).1)

  pub of-nullable : (g : Grammar L) (i : ℕ) → T (nullable g) → (ps : List (Part L)) × Parses g i [] ps
  of-nullable void i p = absurd p
  of-nullable empty i p = ([], (refl, refl))
  of-nullable (byte c) i p = absurd p
  of-nullable (g ⨾ h) i p =
      let x = of-nullable g i (T-left (nullable g) (nullable h) p) in
      let y = of-nullable h i (T-right (nullable g) (nullable h) p) in
      (x.0 ++ y.0, ([], [], x.0, y.0, refl, refl, x.1, y.1))
  of-nullable (g ∣ h) i p =
      ⊎_elim (λ q. let x = of-nullable g i q in (x.0, inl x.1)) (λ q. let x = of-nullable h i q in (x.0, inr x.1))
      (T_case (nullable g) (nullable h) p)
  of-nullable (star g) i p = ([], none)
  of-nullable (part l g) i p =
      let x = of-nullable g i p in
      (record { label = l; start = i; text = [] } ∷ x.0, (x.0, refl, x.1))
  of-nullable (rest c g) i p =
      let x = of-nullable g i p in
      (grown c [] ∷ x.0, (x.0, refl, x.1))
  of-nullable (nest o c l m g r n) i p = absurd p

  pub live_computed : (g : Grammar L) (p : List ℕ) → Live g p ↔ T (live (residual g 0 p))
  live_computed g p = (
    λ v. live_of (residual g 0 p) (past 0 p) v.0 v.2.0 ((residual-means g 0 p v.0 v.2.0).0 v.2.1),
    λ l. let x = text_of (residual g 0 p) (past 0 p) l in (x.0, x.2, (x.1, (residual-means g 0 p x.0 x.1).1 x.3)),
  )

  -- each beginning of a live beginning is live
  pub live-front : (g : Grammar L) (p q : List ℕ) → Live g (p ++ q) → T (live (residual g 0 p))
  live-front g p q v =
      live_of (residual g 0 p) (past 0 p) (q ++ v.0) v.2.0 ((residual-means g 0 p (q ++ v.0) v.2.0).0 (rw append_assoc at v.2.1))
