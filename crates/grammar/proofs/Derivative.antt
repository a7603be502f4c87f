-- The derivative says what it should, parts included: `Parses g i (b ∷ s) ps` and `Parses (deriv g i b) (suc i) s ps` are the same, and
-- `ends g i` has just the empty text, with the parts that it has in g.
use Prim.Native.Nat.{ℕ, zero, suc}
use mathlib.Core.Path.{◌≡◌, refl, sym, ap, subst, ◌∙◌}
use mathlib.Core.Logic.Iff
use mathlib.Core.Logic.{◌⊎◌, inl, inr, ◌↔◌, ⊎_elim}
use mathlib.Core.Bool.{Bool, true, false, cond, ◌&&◌, ◌||◌}
use mathlib.Core.List.{List, [], ◌∷◌, ◌++◌, nil≢cons, cons≢nil, append-nil, append_assoc, head-eq_of_cons-eq, tail-eq_of_cons-eq}
use lib.Dec.{T}
use Rattle.grammar.specs.Grammar.{Class, Part, Grammar, void, empty, byte, ◌⨾◌, ◌∣◌, star, part, rest, nest, Nest, out}
use Rattle.grammar.specs.Grammar.{item, opens, closes, Parses, Many, none, more, past, grown}
use Rattle.grammar.specs.helpers.Derivative.{then, seq, alt, during, inside, closed, ends, deriv, residual}
use Rattle.grammar.proofs.Forms.{then-all, seq-all, alt-all, during-all, inside-all}

pub T_true : (x : Bool) → T x → x ≡ true
T_true true p = refl
T_true false p = absurd p

pub T_false : (x : Bool) → (T x → ⊥) → x ≡ false
T_false true p = absurd (p tt)
T_false false p = refl

pub T-both : (a b : Bool) → T a → T b → T (a && b)
T-both true b p q = q
T-both false b p q = p

pub T_or : (a b : Bool) → T a ⊎ T b → T (a || b)
T_or true b p = tt
T_or false b (inl p) = absurd p
T_or false b (inr p) = p

pub T_case : (a b : Bool) → T (a || b) → T a ⊎ T b
T_case true b p = inl tt
T_case false b p = inr p

-- an empty text is made of empty texts alone
pub split_nil : {A : Type 0} (t u : List A) → [] ≡ t ++ u → (t ≡ []) × (u ≡ [])
split_nil [] u e = (refl, sym e)
split_nil (b ∷ t) u e = absurd (nil≢cons e)

pub past_append : (i : ℕ) (t u : List ℕ) → past i (t ++ u) ≡ past (past i t) u
past_append i [] u = refl
past_append i (b ∷ t) u = past_append (suc i) t u

module _ {L : Type 0} where
  infix 30 ◌≈◌
  abbrev pub ◌≈◌ : Grammar L → Grammar L → Type 0
  g ≈ h = (i : ℕ) (s : List ℕ) (ps : List (Part L)) → Parses g i s ps ↔ Parses h i s ps

  -- `seq`, `alt` and `during` mean ⨾, ∣ and rest
  end_empty : (g : Grammar L) (i : ℕ) (s t u : List ℕ) (ps qs rs : List (Part L)) → s ≡ t ++ u → ps ≡ qs ++ rs → u ≡ [] → rs ≡ []
      → Parses g i t qs → Parses g i s ps
  end_empty g i s t u ps qs rs e f p q m = rw (e, f, p, q, append-nil, append-nil) m

  then-means : (g h : Grammar L) → then g h ≈ (g ⨾ h)
  then-means =
      then-all (λ g h k. k ≈ (g ⨾ h)) (λ g i s ps. (λ m. absurd m, λ m. m.7))
      (λ g i s ps. (
        λ m. (s, [], ps, [], sym (append-nil s), sym (append-nil ps), m, (refl, refl)),
        λ m. end_empty g i s m.0 m.1 ps m.2 m.3 m.4 m.5 m.7.0 m.7.1 m.6,
      ))
      (λ g h i s ps. Iff.rfl)

  drop-empty : (h : Grammar L) (i : ℕ) (s t u : List ℕ) (ps qs rs : List (Part L)) → s ≡ t ++ u → ps ≡ qs ++ rs → t ≡ [] → qs ≡ []
      → Parses h (past i t) u rs → Parses h i s ps
  drop-empty h i s [] u ps [] rs e f p q m = rw (e, f) m
  drop-empty h i s [] u ps (c ∷ qs) rs e f p q m = absurd (cons≢nil q)
  drop-empty h i s (b ∷ t) u ps qs rs e f p q m = absurd (cons≢nil p)

  assoc : (f g h : Grammar L) → (f ⨾ (g ⨾ h)) ≈ ((f ⨾ g) ⨾ h)
  assoc f g h i s ps = (
    λ m.
        let n = m.7 in (
          m.0 ++ n.0,
          n.1,
          m.2 ++ n.2,
          n.3,
          m.4 ∙ ap (λ (x : List ℕ). m.0 ++ x) n.4 ∙ sym (append_assoc m.0 n.0 n.1),
          m.5 ∙ ap (λ (x : List (Part L)). m.2 ++ x) n.5 ∙ sym (append_assoc m.2 n.2 n.3),
          (m.0, n.0, m.2, n.2, refl, refl, m.6, n.6),
          subst (λ (k : ℕ). Parses h k n.1 n.3) (sym (past_append i m.0 n.0)) n.7,
        ),
    λ m.
        let n = m.6 in (
          n.0,
          n.1 ++ m.1,
          n.2,
          n.3 ++ m.3,
          m.4 ∙ ap (λ (x : List ℕ). x ++ m.1) n.4 ∙ append_assoc n.0 n.1 m.1,
          m.5 ∙ ap (λ (x : List (Part L)). x ++ m.3) n.5 ∙ append_assoc n.2 n.3 m.3,
          n.6,
          (
            n.1,
            m.1,
            n.3,
            m.3,
            refl,
            refl,
            n.7,
            subst (λ (k : ℕ). Parses h k m.1 m.3) (ap (past i) n.4 ∙ past_append i n.0 n.1) m.7,
          ),
        ),
  )

  within-seq : (f g h : Grammar L) → g ≈ h → (f ⨾ g) ≈ (f ⨾ h)
  within-seq f g h e i s ps = (
    λ m. (m.0, m.1, m.2, m.3, m.4, m.5, m.6, (e (past i m.0) m.1 m.3).0 m.7),
    λ m. (m.0, m.1, m.2, m.3, m.4, m.5, m.6, (e (past i m.0) m.1 m.3).1 m.7),
  )

  pub seq-means : (g h : Grammar L) → seq g h ≈ (g ⨾ h)
  seq-means =
      seq-all (λ g h k. k ≈ (g ⨾ h)) (λ h i s ps. (λ m. absurd m, λ m. m.6))
      (λ h i s ps. (
        λ m. ([], s, [], ps, refl, refl, (refl, refl), m),
        λ m. drop-empty h i s m.0 m.1 ps m.2 m.3 m.4 m.5 m.6.0 m.6.1 m.7,
      ))
      then-means
      (λ f g h x y i s ps. Iff.trans (x i s ps) (Iff.trans (within-seq f (seq g h) (g ⨾ h) y i s ps) (assoc f g h i s ps)))

  pub alt-means : (g h : Grammar L) → alt g h ≈ (g ∣ h)
  alt-means =
      alt-all (λ g h k. k ≈ (g ∣ h)) (λ h i s ps. (inr, ⊎_elim absurd (λ m. m))) (λ g i s ps. (inl, ⊎_elim (λ m. m) absurd))
      (λ g h i s ps. Iff.rfl)

  pub during-means : (c : Part L) (g : Grammar L) → during c g ≈ rest c g
  during-means c = during-all (λ g k. k ≈ rest c g) (λ i s ps. (λ m. absurd m, λ m. m.2)) c (λ g i s ps. Iff.rfl)

  -- the empty text
  no_more : (P : ℕ → List ℕ → List (Part L) → Type 0) (i : ℕ) (l : List ℕ) (ps : List (Part L)) → Many P i l ps → l ≡ [] → ps ≡ []
  no_more P i l ps none e = refl
  no_more P i l ps (more b t u qs rs m n) e = absurd (cons≢nil e)

  pub of-ends : (g : Grammar L) (i j : ℕ) (s : List ℕ) (ps : List (Part L)) → Parses (ends g i) j s ps → (s ≡ []) × Parses g i [] ps
  of-ends void i j s ps m = absurd m
  of-ends empty i j s ps m = (m.0, (refl, m.1))
  of-ends (byte c) i j s ps m = absurd m
  of-ends (g ⨾ h) i j s ps m =
      let z = (seq-means (ends g i) (ends h i) j s ps).0 m in
      let x = of-ends g i j z.0 z.2 z.6 in
      let y = of-ends h i (past j z.0) z.1 z.3 z.7 in
      (rw (z.4, x.0, y.0), ([], [], z.2, z.3, refl, z.5, x.1, y.1))
  of-ends (g ∣ h) i j s ps m =
      ⊎_elim (λ z. let x = of-ends g i j s ps z in (x.0, inl x.1)) (λ z. let x = of-ends h i j s ps z in (x.0, inr x.1))
      ((alt-means (ends g i) (ends h i) j s ps).0 m)
  of-ends (star g) i j s ps m = (m.0, rw m.1 none)
  of-ends (part l g) i j s ps m =
      let z = (during-means (record { label = l; start = i; text = [] }) (ends g i) j s ps).0 m in
      let x = of-ends g i j s z.0 z.2 in
      (x.0, (z.0, z.1 ∙ ap (λ (t : List ℕ). record { label = l; start = i; text = t } ∷ z.0) x.0, x.1))
  of-ends (rest c g) i j s ps m =
      let z = (during-means c (ends g i) j s ps).0 m in
      let x = of-ends g i j s z.0 z.2 in
      (x.0, (z.0, z.1 ∙ ap (λ (t : List ℕ). grown c t ∷ z.0) x.0, x.1))
  of-ends (nest o c l m g r n) i j s ps k = absurd k

  pub no_nest : (o c : Class) (l m : L) (P : ℕ → List ℕ → List (Part L) → Type 0) (n i : ℕ) (s : List ℕ) (ps : List (Part L))
      → Nest o c l m P (suc n) i s ps → s ≡ [] → ⊥
  no_nest o c l m P n i s ps (item b t u qs rs p k) e = cons≢nil e
  no_nest o c l m P n i s ps (opens b u qs p k) e = cons≢nil e
  no_nest o c l m P n i s ps (closes b u qs p k) e = cons≢nil e

  pub seq_nil : (g h : Grammar L) (i : ℕ) (ps : List (Part L)) (t u : List ℕ) (qs rs : List (Part L)) → [] ≡ t ++ u → ps ≡ qs ++ rs
      → Parses g i t qs → Parses h (past i t) u rs
      → (qs : List (Part L)) × (rs : List (Part L)) × (ps ≡ qs ++ rs) × Parses g i [] qs × Parses h i [] rs
  seq_nil g h i ps [] [] qs rs e f x y = (qs, rs, f, x, y)
  seq_nil g h i ps [] (b ∷ u) qs rs e f x y = absurd (nil≢cons e)
  seq_nil g h i ps (b ∷ t) u qs rs e f x y = absurd (nil≢cons e)

  pub to-ends : (g : Grammar L) (i j : ℕ) (ps : List (Part L)) → Parses g i [] ps → Parses (ends g i) j [] ps
  to-ends void i j ps m = m
  to-ends empty i j ps m = m
  to-ends (byte c) i j ps m = absurd (nil≢cons m.1)
  to-ends (g ⨾ h) i j ps m =
      let z = seq_nil g h i ps m.0 m.1 m.2 m.3 m.4 m.5 m.6 m.7 in
      (seq-means (ends g i) (ends h i) j [] ps).1 ([], [], z.0, z.1, refl, z.2, to-ends g i j z.0 z.3, to-ends h i j z.1 z.4)
  to-ends (g ∣ h) i j ps m =
      (alt-means (ends g i) (ends h i) j [] ps).1 (⊎_elim (λ z. inl (to-ends g i j ps z)) (λ z. inr (to-ends h i j ps z)) m)
  to-ends (star g) i j ps m = (refl, no_more (Parses g) i [] ps m refl)
  to-ends (part l g) i j ps m =
      (during-means (record { label = l; start = i; text = [] }) (ends g i) j [] ps).1 (m.0, m.1, to-ends g i j m.0 m.2)
  to-ends (rest c g) i j ps m = (during-means c (ends g i) j [] ps).1 (m.0, m.1, to-ends g i j m.0 m.2)
  to-ends (nest o c l m g r n) i j ps k =
      absurd (no_nest o c l m (Parses g) n (past i k.0) k.1 k.3 k.7 (split_nil k.0 k.1 k.4).1)

  -- a text that begins with b, in two parts: b is the first byte of the first
  Cut : Grammar L → Grammar L → ℕ → ℕ → List ℕ → List (Part L) → Type 0
  Cut g h i b s ps =
      (t : List ℕ) × (u : List ℕ) × (qs : List (Part L)) × (rs : List (Part L)) × (s ≡ t ++ u) × (ps ≡ qs ++ rs) × Parses g i (b ∷ t) qs × Parses h (past (suc i) t) u rs

  seq_cons : (g h : Grammar L) (i b : ℕ) (s : List ℕ) (ps : List (Part L)) (t u : List ℕ) (qs rs : List (Part L)) → b ∷ s ≡ t ++ u
      → ps ≡ qs ++ rs
      → Parses g i t qs → Parses h (past i t) u rs
      → ((qs : List (Part L)) × (rs : List (Part L)) × (ps ≡ qs ++ rs) × Parses g i [] qs × Parses h i (b ∷ s) rs) ⊎ Cut g h i b s ps
  unfolding Cut
  seq_cons g h i b s ps [] u qs rs e f x y = inl (qs, rs, f, x, rw e y)
  seq_cons g h i b s ps (a ∷ t) u qs rs e f x y = inr (t, u, qs, rs, tail-eq_of_cons-eq e, f, rw (head-eq_of_cons-eq e) x, y)

  star_cons : (g : Grammar L) (i b : ℕ) (s l : List ℕ) (ps : List (Part L)) → l ≡ b ∷ s → Many (Parses g) i l ps → Cut g (star g) i b s ps
  unfolding Cut
  star_cons g i b s l ps e none = absurd (nil≢cons e)
  star_cons g i b s l ps e (more a t u qs rs m n) =
      (t, u, qs, rs, sym (tail-eq_of_cons-eq e), refl, rw (sym (head-eq_of_cons-eq e)) m, n)

  cons_star : (g : Grammar L) (i b : ℕ) (s : List ℕ) (ps : List (Part L)) → Cut g (star g) i b s ps → Many (Parses g) i (b ∷ s) ps
  unfolding Cut
  cons_star g i b s ps c = rw (c.4, c.5) (more b c.0 c.1 c.2 c.3 c.6 c.7)

  byte-means : (x : Bool) (i : ℕ) (s : List ℕ) (ps : List (Part L)) → Parses (cond x empty void) i s ps ↔ (T x × (s ≡ []) × (ps ≡ []))
  byte-means true i s ps = (λ m. (tt, m.0, m.1), λ m. (m.1, m.2))
  byte-means false i s ps = (λ m. absurd m, λ m. m.0)

  regrown : (c : Part L) (b : ℕ) (s : List ℕ) (qs : List (Part L))
      → ◌≡◌ {A = List (Part L)} (grown c (b ∷ s) ∷ qs) (grown (grown c (b ∷ [])) s ∷ qs)
  regrown c b s qs =
      ap (λ (t : List ℕ). record { label = c.label; start = c.start; text = t } ∷ qs) (sym (append_assoc c.text (b ∷ []) s))

  -- nested levels: what a byte does to n + 1 open levels
  module _ (o c : Class) (l m : L) (g : Grammar L) where
    inside-means : (n : ℕ) (r : Grammar L) → inside o c l m g n r ≈ nest o c l m g r n
    inside-means n =
        inside-all (λ r k. k ≈ nest o c l m g r n) (λ i s ps. (λ k. absurd k, λ k. k.6)) o c l m g n (λ r i s ps. Iff.rfl)

    abbrev Levels : ℕ → ℕ → List ℕ → List (Part L) → Type 0
    Levels n i s ps = Nest o c l m (Parses g) n i s ps

    unempty : (n i : ℕ) (s t u : List ℕ) (ps qs rs : List (Part L)) → s ≡ t ++ u → ps ≡ qs ++ rs → t ≡ [] → qs ≡ []
        → Levels n (past i t) u rs → Levels n i s ps
    unempty n i s [] u ps [] rs e f p q k = rw (e, f) k
    unempty n i s [] u ps (d ∷ qs) rs e f p q k = absurd (cons≢nil q)
    unempty n i s (b ∷ t) u ps qs rs e f p q k = absurd (cons≢nil p)

    between : (n i : ℕ) (s : List ℕ) (ps : List (Part L)) → Parses (nest o c l m g empty n) i s ps ↔ Levels (suc n) i s ps
    between n i s ps = (
      λ k. unempty (suc n) i s k.0 k.1 ps k.2 k.3 k.4 k.5 k.6.0 k.6.1 k.7,
      λ k. ([], s, [], ps, refl, refl, (refl, refl), k),
    )

    over : (i : ℕ) (s : List ℕ) (ps : List (Part L)) → Levels zero i s ps → (s ≡ []) × (ps ≡ [])
    over i s ps out = (refl, refl)

    closed-means : (n i : ℕ) (s : List ℕ) (ps : List (Part L)) → Parses (closed o c l m g n) i s ps ↔ Levels n i s ps
    closed-means zero i s ps = (λ k. rw (k.0, k.1) out, over i s ps)
    closed-means (suc n) i s ps = between n i s ps

    module _ (n i b : ℕ) where
      abbrev one : Part L
      one = record { label = l; start = i; text = b ∷ [] }

      abbrev two : Part L
      two = record { label = m; start = i; text = b ∷ [] }

      abbrev Opens : List ℕ → List (Part L) → Type 0
      Opens s ps = T (o.has b) × ((qs : List (Part L)) × (ps ≡ one ∷ qs) × Levels (suc (suc n)) (suc i) s qs)

      abbrev Closes : List ℕ → List (Part L) → Type 0
      Closes s ps = T (c.has b) × ((qs : List (Part L)) × (ps ≡ two ∷ qs) × Levels n (suc i) s qs)

      abbrev Item : List ℕ → List (Part L) → Type 0
      Item s ps =
          (t : List ℕ) × (u : List ℕ) × (qs : List (Part L)) × (rs : List (Part L)) × (s ≡ t ++ u) × (ps ≡ qs ++ rs) × Parses g i (b ∷ t) qs × Levels (suc n) (past (suc i) t) u rs

      -- the first byte opens a level, closes one, or begins an item
      first : (s k : List ℕ) (ps : List (Part L)) → k ≡ b ∷ s → Levels (suc n) i k ps → Opens s ps ⊎ (Closes s ps ⊎ Item s ps)
      first s k ps e (item a t u qs rs p x) =
          inr (inr (t, u, qs, rs, sym (tail-eq_of_cons-eq e), refl, rw (sym (head-eq_of_cons-eq e)) p, x))
      first s k ps e (opens a u qs p x) =
          inl (rw (head-eq_of_cons-eq e) at p, (qs, ap (λ (y : ℕ). record { label = l; start = i; text = y ∷ [] } ∷ qs) (head-eq_of_cons-eq e), rw (tail-eq_of_cons-eq e) at x))
      first s k ps e (closes a u qs p x) =
          inr (inl (rw (head-eq_of_cons-eq e) at p, (qs, ap (λ (y : ℕ). record { label = m; start = i; text = y ∷ [] } ∷ qs) (head-eq_of_cons-eq e), rw (tail-eq_of_cons-eq e) at x)))

      as_item : (s : List ℕ) (ps : List (Part L)) → Item s ps → Levels (suc n) i (b ∷ s) ps
      as_item s ps z = rw (z.4, z.5) (item b z.0 z.1 z.2 z.3 z.6 z.7)

      cond-means : (x : Bool) (h : Grammar L) (j : ℕ) (s : List ℕ) (ps : List (Part L))
          → Parses (cond x h void) j s ps ↔ (T x × Parses h j s ps)
      cond-means true h j s ps = (λ k. (tt, k), λ k. k.1)
      cond-means false h j s ps = (λ k. absurd k, λ k. k.0)

      -- a part that has ended, and then h
      one-means : (p : Part L) (h : Grammar L) (j : ℕ) (s : List ℕ) (ps : List (Part L))
          → Parses (rest p empty ⨾ h) j s ps ↔ ((qs : List (Part L)) × (ps ≡ grown p [] ∷ qs) × Parses h j s qs)
      one-means p h j s ps = (
        λ k. go k.0 k.1 k.2 k.3 k.4 k.5 k.6 k.7,
        λ k. ([], s, grown p [] ∷ [], k.0, refl, k.1, ([], refl, (refl, refl)), k.2),
      )
        where
          go : (t u : List ℕ) (qs rs : List (Part L)) → s ≡ t ++ u → ps ≡ qs ++ rs
              → (xs : List (Part L)) × (qs ≡ grown p t ∷ xs) × ((t ≡ []) × (xs ≡ [])) → Parses h (past j t) u rs
              → (qs : List (Part L)) × (ps ≡ grown p [] ∷ qs) × Parses h j s qs
          go [] u qs rs e f x y = (rs, f ∙ rw (x.1, x.2.1), rw e y)
          go (a ∷ t) u qs rs e f x y = absurd (cons≢nil x.2.0)

      abbrev up : Grammar L
      up = cond (o.has b) (rest one empty ⨾ nest o c l m g empty (suc n)) void

      abbrev down : Grammar L
      down = cond (c.has b) (then (rest two empty) (closed o c l m g n)) void

      abbrev turn : Grammar L
      turn = alt up (alt down (inside o c l m g n (deriv g i b)))

      turn-of : ((t : List ℕ) (qs : List (Part L)) → Parses g i (b ∷ t) qs → Parses (deriv g i b) (suc i) t qs)
          → (s : List ℕ) (ps : List (Part L))
          → Levels (suc n) i (b ∷ s) ps → Parses turn (suc i) s ps
      turn-of f s ps k =
          ⊎_elim
          (λ z.
          (alt-means up (alt down (inside o c l m g n (deriv g i b))) (suc i) s ps).1
          (inl ((cond-means (o.has b) (rest one empty ⨾ nest o c l m g empty (suc n)) (suc i) s ps).1
          (z.0, (one-means one (nest o c l m g empty (suc n)) (suc i) s ps).1 (z.1.0, z.1.1, (between (suc n) (suc i) s z.1.0).1 z.1.2)))))
          (λ y.
          (alt-means up (alt down (inside o c l m g n (deriv g i b))) (suc i) s ps).1
          (inr ((alt-means down (inside o c l m g n (deriv g i b)) (suc i) s ps).1
          (⊎_elim
          (λ z.
          inl ((cond-means (c.has b) (then (rest two empty) (closed o c l m g n)) (suc i) s ps).1 (
            z.0,
            (then-means (rest two empty) (closed o c l m g n) (suc i) s ps).1
                ((one-means two (closed o c l m g n) (suc i) s ps).1 (z.1.0, z.1.1, (closed-means n (suc i) s z.1.0).1 z.1.2)),
          )))
          (λ z. inr ((inside-means n (deriv g i b) (suc i) s ps).1 (z.0, z.1, z.2, z.3, z.4, z.5, f z.0 z.2 z.6, z.7))) y))))
          (first s (b ∷ s) ps refl k)

      of-turn : ((t : List ℕ) (qs : List (Part L)) → Parses (deriv g i b) (suc i) t qs → Parses g i (b ∷ t) qs)
          → (s : List ℕ) (ps : List (Part L))
          → Parses turn (suc i) s ps → Levels (suc n) i (b ∷ s) ps
      of-turn f s ps k =
          ⊎_elim
          (λ z.
          let x = (cond-means (o.has b) (rest one empty ⨾ nest o c l m g empty (suc n)) (suc i) s ps).0 z in
          let y = (one-means one (nest o c l m g empty (suc n)) (suc i) s ps).0 x.1 in
          rw y.1 (opens b s y.0 x.0 ((between (suc n) (suc i) s y.0).0 y.2)))
          (λ w.
          ⊎_elim
          (λ z.
          let x = (cond-means (c.has b) (then (rest two empty) (closed o c l m g n)) (suc i) s ps).0 z in
          let y = (one-means two (closed o c l m g n) (suc i) s ps).0 ((then-means (rest two empty) (closed o c l m g n) (suc i) s ps).0 x.1) in
          rw y.1 (closes b s y.0 x.0 ((closed-means n (suc i) s y.0).0 y.2)))
          (λ z.
          let y = (inside-means n (deriv g i b) (suc i) s ps).0 z in
          as_item s ps (y.0, y.1, y.2, y.3, y.4, y.5, f y.0 y.2 y.6, y.7))
          ((alt-means down (inside o c l m g n (deriv g i b)) (suc i) s ps).0 w))
          ((alt-means up (alt down (inside o c l m g n (deriv g i b))) (suc i) s ps).0 k)

  here : (h : Grammar L) (j : ℕ) (s t u : List ℕ) (rs : List (Part L)) → s ≡ t ++ u → t ≡ [] → Parses h (past j t) u rs → Parses h j s rs
  here h j s [] u rs e f y = rw e y
  here h j s (a ∷ t) u rs e f y = absurd (cons≢nil f)

  nest_cons : (o c : Class) (l m : L) (g r : Grammar L) (n i b : ℕ) (s : List ℕ) (ps : List (Part L)) (t u : List ℕ) (qs rs : List (Part L)) → b ∷ s ≡ t ++ u → ps ≡ qs ++ rs
      → Parses r i t qs → Nest o c l m (Parses g) (suc n) (past i t) u rs
      → ((qs : List (Part L)) × (rs : List (Part L)) × (ps ≡ qs ++ rs) × Parses r i [] qs × Nest o c l m (Parses g) (suc n) i (b ∷ s) rs)
      ⊎ ((t : List ℕ) × (u : List ℕ) × (qs : List (Part L)) × (rs : List (Part L)) × (s ≡ t ++ u) × (ps ≡ qs ++ rs) × Parses r i (b ∷ t) qs × Nest o c l m (Parses g) (suc n) (past (suc i) t) u rs)
  nest_cons o c l m g r n i b s ps [] u qs rs e f x y = inl (qs, rs, f, x, rw e y)
  nest_cons o c l m g r n i b s ps (a ∷ t) u qs rs e f x y = inr (t, u, qs, rs, tail-eq_of_cons-eq e, f, rw (head-eq_of_cons-eq e) x, y)

  pub deriv-of : (g : Grammar L) (i b : ℕ) (s : List ℕ) (ps : List (Part L)) → Parses g i (b ∷ s) ps → Parses (deriv g i b) (suc i) s ps
  unfolding Cut
  deriv-of void i b s ps m = m
  deriv-of empty i b s ps m = absurd (cons≢nil m.0)
  deriv-of (byte c) i b s ps m =
      (byte-means (c.has b) (suc i) s ps).1 (rw (head-eq_of_cons-eq m.1) m.2, tail-eq_of_cons-eq m.1, m.3)
  deriv-of (g ⨾ h) i b s ps m =
      (alt-means (seq (deriv g i b) h) (seq (ends g i) (deriv h i b)) (suc i) s ps).1
      (⊎_elim
      (λ z. inr ((seq-means (ends g i) (deriv h i b) (suc i) s ps).1 ([], s, z.0, z.1, refl, z.2, to-ends g i (suc i) z.0 z.3, deriv-of h i b s z.1 z.4)))
      (λ z. inl ((seq-means (deriv g i b) h (suc i) s ps).1 (z.0, z.1, z.2, z.3, z.4, z.5, deriv-of g i b z.0 z.2 z.6, z.7)))
      (seq_cons g h i b s ps m.0 m.1 m.2 m.3 m.4 m.5 m.6 m.7))
  deriv-of (g ∣ h) i b s ps m =
      (alt-means (deriv g i b) (deriv h i b) (suc i) s ps).1 (⊎_elim (λ z. inl (deriv-of g i b s ps z)) (λ z. inr (deriv-of h i b s ps z)) m)
  deriv-of (star g) i b s ps m =
      let z = star_cons g i b s (b ∷ s) ps refl m in
      (seq-means (deriv g i b) (star g) (suc i) s ps).1 (z.0, z.1, z.2, z.3, z.4, z.5, deriv-of g i b z.0 z.2 z.6, z.7)
  deriv-of (part l g) i b s ps m =
      (during-means (record { label = l; start = i; text = b ∷ [] }) (deriv g i b) (suc i) s ps).1 (m.0, m.1, deriv-of g i b s m.0 m.2)
  deriv-of (rest c g) i b s ps m =
      (during-means (grown c (b ∷ [])) (deriv g i b) (suc i) s ps).1 (m.0, m.1 ∙ regrown c b s m.0, deriv-of g i b s m.0 m.2)
  deriv-of (nest o c l m g r n) i b s ps k =
      (alt-means (inside o c l m g n (deriv r i b)) (seq (ends r i) (turn o c l m g n i b)) (suc i) s ps).1
      (⊎_elim
      (λ z.
      inr ((seq-means (ends r i) (turn o c l m g n i b) (suc i) s ps).1
      ([], s, z.0, z.1, refl, z.2, to-ends r i (suc i) z.0 z.3, turn-of o c l m g n i b (λ t qs. deriv-of g i b t qs) s z.1 z.4)))
      (λ z. inl ((inside-means o c l m g n (deriv r i b) (suc i) s ps).1 (z.0, z.1, z.2, z.3, z.4, z.5, deriv-of r i b z.0 z.2 z.6, z.7)))
      (nest_cons o c l m g r n i b s ps k.0 k.1 k.2 k.3 k.4 k.5 k.6 k.7))

  pub of-deriv : (g : Grammar L) (i b : ℕ) (s : List ℕ) (ps : List (Part L)) → Parses (deriv g i b) (suc i) s ps → Parses g i (b ∷ s) ps
  unfolding Cut
  of-deriv void i b s ps m = m
  of-deriv empty i b s ps m = absurd m
  of-deriv (byte c) i b s ps m =
      let z = (byte-means (c.has b) (suc i) s ps).0 m in
      (b, ap (λ (l : List ℕ). b ∷ l) z.1, z.0, z.2)
  of-deriv (g ⨾ h) i b s ps m =
      ⊎_elim
      (λ k.
      let z = (seq-means (deriv g i b) h (suc i) s ps).0 k in
      (b ∷ z.0, z.1, z.2, z.3, ap (λ (l : List ℕ). b ∷ l) z.4, z.5, of-deriv g i b z.0 z.2 z.6, z.7))
      (λ k.
      let z = (seq-means (ends g i) (deriv h i b) (suc i) s ps).0 k in
      let x = of-ends g i (suc i) z.0 z.2 z.6 in
      ([], b ∷ s, z.2, z.3, refl, z.5, x.1, of-deriv h i b s z.3 (go z.0 z.1 z.3 z.4 x.0 z.7)))
      ((alt-means (seq (deriv g i b) h) (seq (ends g i) (deriv h i b)) (suc i) s ps).0 m)
    where
      go : (t u : List ℕ) (rs : List (Part L)) → s ≡ t ++ u → t ≡ [] → Parses (deriv h i b) (past (suc i) t) u rs
          → Parses (deriv h i b) (suc i) s rs
      go [] u rs e f y = rw e y
      go (a ∷ t) u rs e f y = absurd (cons≢nil f)
  of-deriv (g ∣ h) i b s ps m =
      ⊎_elim (λ z. inl (of-deriv g i b s ps z)) (λ z. inr (of-deriv h i b s ps z)) ((alt-means (deriv g i b) (deriv h i b) (suc i) s ps).0 m)
  of-deriv (star g) i b s ps m =
      let z = (seq-means (deriv g i b) (star g) (suc i) s ps).0 m in
      cons_star g i b s ps (z.0, z.1, z.2, z.3, z.4, z.5, of-deriv g i b z.0 z.2 z.6, z.7)
  of-deriv (part l g) i b s ps m =
      let z = (during-means (record { label = l; start = i; text = b ∷ [] }) (deriv g i b) (suc i) s ps).0 m in
      (z.0, z.1, of-deriv g i b s z.0 z.2)
  of-deriv (rest c g) i b s ps m =
      let z = (during-means (grown c (b ∷ [])) (deriv g i b) (suc i) s ps).0 m in
      (z.0, z.1 ∙ sym (regrown c b s z.0), of-deriv g i b s z.0 z.2)
  of-deriv (nest o c l m g r n) i b s ps k =
      ⊎_elim
      (λ z.
      let y = (inside-means o c l m g n (deriv r i b) (suc i) s ps).0 z in
      (b ∷ y.0, y.1, y.2, y.3, ap (λ (x : List ℕ). b ∷ x) y.4, y.5, of-deriv r i b y.0 y.2 y.6, y.7))
      (λ z.
      let y = (seq-means (ends r i) (turn o c l m g n i b) (suc i) s ps).0 z in
      let x = of-ends r i (suc i) y.0 y.2 y.6 in
      ([], b ∷ s, y.2, y.3, refl, y.5, x.1, of-turn o c l m g n i b (λ t qs. of-deriv g i b t qs) s y.3 (here (turn o c l m g n i b) (suc i) s y.0 y.1 y.3 y.4 x.0 y.7)))
      ((alt-means (inside o c l m g n (deriv r i b)) (seq (ends r i) (turn o c l m g n i b)) (suc i) s ps).0 k)

  pub deriv-means : (g : Grammar L) (i b : ℕ) (s : List ℕ) (ps : List (Part L)) → Parses g i (b ∷ s) ps ↔ Parses (deriv g i b) (suc i) s ps
  deriv-means g i b s ps = (deriv-of g i b s ps, of-deriv g i b s ps)

  -- along a text: what is left of g after p
  pub residual-means : (g : Grammar L) (i : ℕ) (p s : List ℕ) (ps : List (Part L))
      → Parses g i (p ++ s) ps ↔ Parses (residual g i p) (past i p) s ps
  residual-means g i [] s ps = Iff.rfl
  residual-means g i (b ∷ p) s ps = Iff.trans (deriv-means g i b (p ++ s) ps) (residual-means (deriv g i b) (suc i) p s ps)
