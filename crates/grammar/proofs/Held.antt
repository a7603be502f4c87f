-- The parts that have begun, `held`, are those of every text that goes on from here.
use Prim.Native.Nat.{ℕ, zero, suc, ◌-◌, ◌≤◌, ◌<◌}
use native.Mathlib.Omega.{arith}
use borrow.Author.Tests.{lt-ltb, le-ltb}
use mathlib.Core.Path.{◌≡◌, refl, sym, ap, ◌∙◌}
use mathlib.Core.Logic.{◌⊎◌, inl, inr, ⊎_elim}
use mathlib.Core.Bool.{Bool, true, false, cond}
use mathlib.Core.List.{List, [], ◌∷◌, ◌++◌, append-nil, cons≢nil}
use lib.Dec.{T, ltb}
use lib.ListN.{length, take}
use lib.Seq.{take_at}
use Rattle.grammar.specs.Grammar.{Class, Part, Grammar, void, empty, byte, ◌⨾◌, ◌∣◌, star, part, rest, nest, Nest, out}
use Rattle.grammar.specs.Grammar.{item, opens, closes, Parses, Many, none, more, past, grown, T-left, T-right}
use Rattle.grammar.specs.helpers.Derivative.{then, seq, alt, during, inside, closed, deriv, ends, residual}
use Rattle.grammar.proofs.Forms.{then-all, seq-all, alt-all, during-all, inside-all}
use Rattle.grammar.specs.Reading.{parts_before}
use Rattle.grammar.specs.helpers.Judge.{held}
use Rattle.grammar.specs.helpers.Checks.{fresh?, still?, clear?}
use Rattle.grammar.proofs.Derivative.{T-both, seq_nil}
use Rattle.grammar.proofs.Longest.{past-length, past_snoc}
use Rattle.grammar.proofs.Shapes.{seq-void}

past_le : (i : ℕ) (t : List ℕ) → i ≤ past i t
past_le i t = omega (arith, past-length i t)

module _ {L : Type 0} where
  kept : (x : Bool) (c : Part L) (l m q : List (Part L)) → l ≡ m ++ q → cond x (c ∷ l) l ≡ cond x (c ∷ m) m ++ q
  kept true c l m q e = ap (λ (k : List (Part L)). c ∷ k) e
  kept false c l m q e = e

  pub before_append : (n : ℕ) (ps qs : List (Part L)) → parts_before n (ps ++ qs) ≡ parts_before n ps ++ parts_before n qs
  before_append n [] qs = refl
  before_append n (c ∷ ps) qs =
      kept (ltb c.start n) (record { label = c.label; start = c.start; text = take (n - c.start) c.text }) (parts_before n (ps ++ qs)) (parts_before n ps) (parts_before n qs)
      (before_append n ps qs)

  -- a text of a fresh grammar has no part that begins before it
  fresh_many : (i : ℕ) (P : ℕ → List ℕ → List (Part L) → Type 0)
      → ((k : ℕ) (t : List ℕ) (ps : List (Part L)) → i ≤ k → P k t ps → parts_before i ps ≡ [])
      → (j : ℕ) → i ≤ j → (l : List ℕ) (ps : List (Part L)) → Many P j l ps → parts_before i ps ≡ []
  fresh_many i P f j h l ps none = refl
  fresh_many i P f j h l ps (more b t u qs rs m n) =
      before_append i qs rs
      ∙ ap (λ (k : List (Part L)). k ++ parts_before i rs) (f j (b ∷ t) qs h m)
      ∙ fresh_many i P f (past (suc j) t) (omega (arith, past_le (suc j) t)) u rs n

  fresh-nest : (o c : Class) (l m : L) (i : ℕ) (P : ℕ → List ℕ → List (Part L) → Type 0)
      → ((k : ℕ) (t : List ℕ) (ps : List (Part L)) → i ≤ k → P k t ps → parts_before i ps ≡ [])
      → (n j : ℕ) → i ≤ j → (s : List ℕ) (ps : List (Part L)) → Nest o c l m P n j s ps → parts_before i ps ≡ []
  fresh-nest o c l m i P f n j h s ps out = refl
  fresh-nest o c l m i P f n j h s ps (item {n = w} b t u qs rs p k) =
      before_append i qs rs
      ∙ ap (λ (x : List (Part L)). x ++ parts_before i rs) (f j (b ∷ t) qs h p)
      ∙ fresh-nest o c l m i P f (suc w) (past (suc j) t) (omega (arith, past_le (suc j) t)) u rs k
  fresh-nest o c l m i P f n j h s ps (opens {n = w} b u qs p k) =
      rw (le-ltb j i h) (fresh-nest o c l m i P f (suc (suc w)) (suc j) (omega arith) u qs k)
  fresh-nest o c l m i P f n j h s ps (closes {n = w} b u qs p k) =
      rw (le-ltb j i h) (fresh-nest o c l m i P f w (suc j) (omega arith) u qs k)

  pub fresh-before : (g : Grammar L) (i j : ℕ) (t : List ℕ) (ps : List (Part L)) → T (fresh? g) → i ≤ j → Parses g j t ps
      → parts_before i ps ≡ []
  fresh-before void i j t ps f h m = absurd m
  fresh-before empty i j t ps f h m = ap (parts_before i) m.1
  fresh-before (byte c) i j t ps f h m = ap (parts_before i) m.3
  fresh-before (g ⨾ k) i j t ps f h m =
      ap (parts_before i) m.5 ∙ before_append i m.2 m.3
      ∙ ap (λ (l : List (Part L)). l ++ parts_before i m.3) (fresh-before g i j m.0 m.2 (T-left (fresh? g) (fresh? k) f) h m.6)
      ∙ fresh-before k i (past j m.0) m.1 m.3 (T-right (fresh? g) (fresh? k) f) (omega (arith, past_le j m.0)) m.7
  fresh-before (g ∣ k) i j t ps f h (inl m) = fresh-before g i j t ps (T-left (fresh? g) (fresh? k) f) h m
  fresh-before (g ∣ k) i j t ps f h (inr m) = fresh-before k i j t ps (T-right (fresh? g) (fresh? k) f) h m
  fresh-before (star g) i j t ps f h m = fresh_many i (Parses g) (λ k u qs l n. fresh-before g i k u qs f l n) j h t ps m
  fresh-before (part l g) i j t ps f h m = rw (m.1, le-ltb j i h) (fresh-before g i j t m.0 f h m.2)
  fresh-before (rest c g) i j t ps f h m = absurd f
  fresh-before (nest o c l m g r n) i j t ps f h k =
      ap (parts_before i) k.5 ∙ before_append i k.2 k.3
      ∙ ap (λ (x : List (Part L)). x ++ parts_before i k.3) (fresh-before r i j k.0 k.2 (T-right (fresh? g) (fresh? r) f) h k.6)
      ∙ fresh-nest o c l m i (Parses g) (λ w u qs y z. fresh-before g i w u qs (T-left (fresh? g) (fresh? r) f) y z) (suc n) (past j k.0) (omega (arith, past_le j k.0)) k.1 k.3 k.7

  fresh-held : (g : Grammar L) → T (fresh? g) → held g ≡ []
  fresh-held void f = refl
  fresh-held empty f = refl
  fresh-held (byte c) f = refl
  fresh-held (g ⨾ h) f = rw (fresh-held g (T-left (fresh? g) (fresh? h) f), fresh-held h (T-right (fresh? g) (fresh? h) f))
  fresh-held (g ∣ h) f = fresh-held g (T-left (fresh? g) (fresh? h) f)
  fresh-held (star g) f = refl
  fresh-held (part l g) f = refl
  fresh-held (rest c g) f = absurd f
  fresh-held (nest o c l m g r n) f = fresh-held r (T-right (fresh? g) (fresh? r) f)

  -- a still grammar has the empty text alone
  still_nil : (g : Grammar L) (i : ℕ) (t : List ℕ) (ps : List (Part L)) → T (still? g) → Parses g i t ps → t ≡ []
  still_nil void i t ps f m = absurd m
  still_nil empty i t ps f m = m.0
  still_nil (byte c) i t ps f m = absurd f
  still_nil (g ⨾ h) i t ps f m =
      rw (m.4, still_nil g i m.0 m.2 (T-left (still? g) (still? h) f) m.6, still_nil h (past i m.0) m.1 m.3 (T-right (still? g) (still? h) f) m.7)
  still_nil (g ∣ h) i t ps f (inl m) = still_nil g i t ps (T-left (still? g) (still? h) f) m
  still_nil (g ∣ h) i t ps f (inr m) = still_nil h i t ps (T-right (still? g) (still? h) f) m
  still_nil (star g) i t ps f m = absurd f
  still_nil (part l g) i t ps f m = absurd f
  still_nil (rest c g) i t ps f m = still_nil g i t m.0 f m.2
  still_nil (nest o c l m g r n) i t ps f k = absurd f

  still_deriv : (g : Grammar L) (i b : ℕ) → T (still? g) → deriv g i b ≡ void
  still_deriv void i b f = refl
  still_deriv empty i b f = refl
  still_deriv (byte c) i b f = absurd f
  still_deriv (g ⨾ h) i b f =
      rw (still_deriv g i b (T-left (still? g) (still? h) f), still_deriv h i b (T-right (still? g) (still? h) f)) (seq-void (ends g i))
  still_deriv (g ∣ h) i b f = rw (still_deriv g i b (T-left (still? g) (still? h) f), still_deriv h i b (T-right (still? g) (still? h) f))
  still_deriv (star g) i b f = absurd f
  still_deriv (part l g) i b f = absurd f
  still_deriv (rest c g) i b f = rw (still_deriv g i b f)
  still_deriv (nest o c l m g r n) i b f = absurd f

  -- the parts that have begun stand before the place i, and the bytes that follow go on with the last of them or with none
  abbrev pub Begun : ℕ → Grammar L → Type 0
  Begun i void = Unit {0}
  Begun i empty = Unit {0}
  Begun i (byte c) = Unit {0}
  Begun i (g ⨾ h) = (Begun i g × T (fresh? h)) ⊎ (T (still? g) × Begun i g × Begun i h)
  Begun i (g ∣ h) = Begun i g × Begun i h
  Begun i (star g) = T (fresh? g)
  Begun i (part l g) = T (fresh? g)
  Begun i (rest c g) =
      Begun i g × (c.start < i) × ((past c.start c.text ≡ i) ⊎ (T (still? g) × (past c.start c.text ≤ i)))
  Begun i (nest o c l m g r n) = T (fresh? g) × Begun i r

  pub fresh-begun : (g : Grammar L) (i : ℕ) → T (fresh? g) → Begun i g
  fresh-begun void i f = tt
  fresh-begun empty i f = tt
  fresh-begun (byte c) i f = tt
  fresh-begun (g ⨾ h) i f = inl (fresh-begun g i (T-left (fresh? g) (fresh? h) f), T-right (fresh? g) (fresh? h) f)
  fresh-begun (g ∣ h) i f = (fresh-begun g i (T-left (fresh? g) (fresh? h) f), fresh-begun h i (T-right (fresh? g) (fresh? h) f))
  fresh-begun (star g) i f = f
  fresh-begun (part l g) i f = f
  fresh-begun (rest c g) i f = absurd f
  fresh-begun (nest o c l m g r n) i f = (T-left (fresh? g) (fresh? r) f, fresh-begun r i (T-right (fresh? g) (fresh? r) f))

  fresh-then : (g h : Grammar L) → T (fresh? g) → T (fresh? h) → T (fresh? (then g h))
  fresh-then = then-all (λ g h k. T (fresh? g) → T (fresh? h) → T (fresh? k)) (λ g v w. tt) (λ g v w. v) (λ g h v w. T-both (fresh? g) (fresh? h) v w)

  fresh-seq : (g h : Grammar L) → T (fresh? g) → T (fresh? h) → T (fresh? (seq g h))
  fresh-seq =
      seq-all (λ g h k. T (fresh? g) → T (fresh? h) → T (fresh? k)) (λ h v w. tt) (λ h v w. w) fresh-then
      (λ f g h x y v w. x (T-left (fresh? f) (fresh? g) v) (y (T-right (fresh? f) (fresh? g) v) w))

  module _ (i : ℕ) where
    begun-then : (g h : Grammar L) → Begun i (g ⨾ h) → Begun i (then g h)
    begun-then = then-all (λ g h k. Begun i (g ⨾ h) → Begun i k) (λ g w. tt) (λ g. ⊎_elim (λ w. w.0) (λ w. w.1)) (λ g h w. w)

    halves : (f g : Grammar L) → Begun i (f ⨾ g) → Begun i f × Begun i g
    halves f g (inl w) = (w.0, fresh-begun g i w.1)
    halves f g (inr w) = (w.1, w.2)

    half : (f g h : Grammar L) → (Begun i (f ⨾ seq g h) → Begun i (seq f (seq g h))) → (Begun i (g ⨾ h) → Begun i (seq g h))
        → Begun i (f ⨾ g) → T (fresh? h) → Begun i (seq f (seq g h))
    half f g h x y (inl v) w = x (inl (v.0, fresh-seq g h v.1 w))
    half f g h x y (inr v) w = x (inr (v.0, v.1, y (inl (v.2, w))))

    begun-seq : (g h : Grammar L) → Begun i (g ⨾ h) → Begun i (seq g h)
    begun-seq =
        seq-all (λ g h k. Begun i (g ⨾ h) → Begun i k) (λ h w. tt) (λ h. ⊎_elim (λ w. fresh-begun h i w.1) (λ w. w.2)) begun-then
        (λ f g h x y.
        ⊎_elim (λ w. half f g h x y w.0 w.1)
        (λ w.
        let z = halves f g w.1 in
        x (inr (T-left (still? f) (still? g) w.0, z.0, y (inr (T-right (still? f) (still? g) w.0, z.1, w.2))))))

    begun-alt : (g h : Grammar L) → Begun i g → Begun i h → Begun i (alt g h)
    begun-alt = alt-all (λ g h k. Begun i g → Begun i h → Begun i k) (λ h v w. w) (λ g v w. v) (λ g h v w. (v, w))

    begun-during : (c : Part L) (g : Grammar L) → Begun i (rest c g) → Begun i (during c g)
    begun-during c = during-all (λ g k. Begun i (rest c g) → Begun i k) (λ w. tt) c (λ g w. w)

    module _ (o c : Class) (l m : L) (g : Grammar L) (n : ℕ) where
      begun-inside : (r : Grammar L) → Begun i (nest o c l m g r n) → Begun i (inside o c l m g n r)
      begun-inside = inside-all (λ r k. Begun i (nest o c l m g r n) → Begun i k) (λ w. tt) o c l m g n (λ r w. w)

    begun-closed : (o c : Class) (l m : L) (g : Grammar L) (n : ℕ) → T (fresh? g) → Begun i (closed o c l m g n)
    begun-closed o c l m g zero f = tt
    begun-closed o c l m g (suc n) f = (f, tt)

  still_then : (g h : Grammar L) → T (still? g) → T (still? h) → T (still? (then g h))
  still_then = then-all (λ g h k. T (still? g) → T (still? h) → T (still? k)) (λ g v w. tt) (λ g v w. v) (λ g h v w. T-both (still? g) (still? h) v w)

  still_seq : (g h : Grammar L) → T (still? g) → T (still? h) → T (still? (seq g h))
  still_seq =
      seq-all (λ g h k. T (still? g) → T (still? h) → T (still? k)) (λ h v w. tt) (λ h v w. w) still_then
      (λ f g h x y v w. x (T-left (still? f) (still? g) v) (y (T-right (still? f) (still? g) v) w))

  still_alt : (g h : Grammar L) → T (still? g) → T (still? h) → T (still? (alt g h))
  still_alt =
      alt-all (λ g h k. T (still? g) → T (still? h) → T (still? k)) (λ h v w. w) (λ g v w. v) (λ g h v w. T-both (still? g) (still? h) v w)

  still_during : (c : Part L) (g : Grammar L) → T (still? g) → T (still? (during c g))
  still_during c = during-all (λ g k. T (still? g) → T (still? k)) (λ w. tt) c (λ g w. w)

  pub still_ends : (g : Grammar L) (i : ℕ) → T (still? (ends g i))
  still_ends void i = tt
  still_ends empty i = tt
  still_ends (byte c) i = tt
  still_ends (g ⨾ h) i = still_seq (ends g i) (ends h i) (still_ends g i) (still_ends h i)
  still_ends (g ∣ h) i = still_alt (ends g i) (ends h i) (still_ends g i) (still_ends h i)
  still_ends (star g) i = tt
  still_ends (part l g) i = still_during (record { label = l; start = i; text = [] }) (ends g i) (still_ends g i)
  still_ends (rest c g) i = still_during c (ends g i) (still_ends g i)
  still_ends (nest o c l m g r n) i = tt

  ended : (c : Part L) (i : ℕ) (x : Bool) → (past c.start c.text ≡ i) ⊎ (T x × (past c.start c.text ≤ i))
      → past c.start c.text ≤ suc i
  ended c i x (inl e) = omega arith
  ended c i x (inr e) = omega arith

  begun-ends : (g : Grammar L) (i : ℕ) → Begun i g → Begun (suc i) (ends g i)
  begun-ends void i w = tt
  begun-ends empty i w = tt
  begun-ends (byte c) i w = tt
  begun-ends (g ⨾ h) i (inl w) =
      begun-seq (suc i) (ends g i) (ends h i) (inr (still_ends g i, begun-ends g i w.0, begun-ends h i (fresh-begun h i w.1)))
  begun-ends (g ⨾ h) i (inr w) =
      begun-seq (suc i) (ends g i) (ends h i) (inr (still_ends g i, begun-ends g i w.1, begun-ends h i w.2))
  begun-ends (g ∣ h) i w = begun-alt (suc i) (ends g i) (ends h i) (begun-ends g i w.0) (begun-ends h i w.1)
  begun-ends (star g) i w = tt
  begun-ends (part l g) i w =
      begun-during (suc i) (record { label = l; start = i; text = [] }) (ends g i)
      (begun-ends g i (fresh-begun g i w), omega arith, inr (still_ends g i, omega arith))
  begun-ends (rest c g) i w =
      begun-during (suc i) c (ends g i) (begun-ends g i w.0, omega (arith, w.1), inr (still_ends g i, ended c i (still? g) w.2))
  begun-ends (nest o c l m g r n) i w = tt

  begun-cond : (x : Bool) (i : ℕ) (g : Grammar L) → Begun i g → Begun i (cond x g void)
  begun-cond true i g w = w
  begun-cond false i g w = tt

  begun_gone : (c : Part L) (i b : ℕ) (g : Grammar L) → deriv g i b ≡ void → Begun (suc i) (during (grown c (b ∷ [])) (deriv g i b))
  begun_gone c i b g e = rw e tt

  begun-none : (i b : ℕ) (g h : Grammar L) → deriv g i b ≡ void → Begun (suc i) (seq (deriv g i b) h)
  begun-none i b g h e = rw e tt

  pub begun-deriv : (g : Grammar L) (i b : ℕ) → Begun i g → Begun (suc i) (deriv g i b)
  begun-deriv void i b w = tt
  begun-deriv empty i b w = tt
  begun-deriv (byte c) i b w = begun-cond (c.has b) (suc i) empty tt
  begun-deriv (g ⨾ h) i b (inl w) =
      begun-alt (suc i) (seq (deriv g i b) h) (seq (ends g i) (deriv h i b))
      (begun-seq (suc i) (deriv g i b) h (inl (begun-deriv g i b w.0, w.1)))
      (begun-seq (suc i) (ends g i) (deriv h i b) (inr (still_ends g i, begun-ends g i w.0, begun-deriv h i b (fresh-begun h i w.1))))
  begun-deriv (g ⨾ h) i b (inr w) =
      begun-alt (suc i) (seq (deriv g i b) h) (seq (ends g i) (deriv h i b))
      (begun-none i b g h (still_deriv g i b w.0))
      (begun-seq (suc i) (ends g i) (deriv h i b) (inr (still_ends g i, begun-ends g i w.1, begun-deriv h i b w.2)))
  begun-deriv (g ∣ h) i b w = begun-alt (suc i) (deriv g i b) (deriv h i b) (begun-deriv g i b w.0) (begun-deriv h i b w.1)
  begun-deriv (star g) i b w = begun-seq (suc i) (deriv g i b) (star g) (inl (begun-deriv g i b (fresh-begun g i w), w))
  begun-deriv (part l g) i b w =
      begun-during (suc i) (record { label = l; start = i; text = b ∷ [] }) (deriv g i b)
      (begun-deriv g i b (fresh-begun g i w), omega arith, inl refl)
  begun-deriv (rest c g) i b w =
      ⊎_elim
      (λ e.
      begun-during (suc i) (grown c (b ∷ [])) (deriv g i b)
      (begun-deriv g i b w.0, omega (arith, w.1), inl (past_snoc c.start c.text b ∙ ap suc e)))
      (λ e. begun_gone c i b g (still_deriv g i b e.0)) w.2
  begun-deriv (nest o c l m g r n) i b w =
      let one : Part L = record { label = l; start = i; text = b ∷ [] } in
      let two : Part L = record { label = m; start = i; text = b ∷ [] } in
      let up = cond (o.has b) (rest one empty ⨾ nest o c l m g empty (suc n)) void in
      let down = cond (c.has b) (then (rest two empty) (closed o c l m g n)) void in
      let item = inside o c l m g n (deriv g i b) in
      begun-alt (suc i) (inside o c l m g n (deriv r i b)) (seq (ends r i) (alt up (alt down item)))
      (begun-inside (suc i) o c l m g n (deriv r i b) (w.0, begun-deriv r i b w.1))
      (begun-seq (suc i) (ends r i) (alt up (alt down item))
      (inr (
        still_ends r i,
        begun-ends r i w.1,
        begun-alt (suc i) up (alt down item)
            (begun-cond (o.has b) (suc i) (rest one empty ⨾ nest o c l m g empty (suc n)) (inr (tt, (tt, omega arith, inl refl), (w.0, tt))))
            (begun-alt (suc i) down item
            (begun-cond (c.has b) (suc i) (then (rest two empty) (closed o c l m g n))
            (begun-then (suc i) (rest two empty) (closed o c l m g n) (inr (tt, (tt, omega arith, inl refl), begun-closed (suc i) o c l m g n w.0))))
            (begun-inside (suc i) o c l m g n (deriv g i b) (w.0, begun-deriv g i b (fresh-begun g i w.0)))),
      )))

  pub residual-begun : (g : Grammar L) (i : ℕ) (p : List ℕ) → Begun i g → Begun (past i p) (residual g i p)
  residual-begun g i [] w = w
  residual-begun g i (b ∷ p) w = residual-begun (deriv g i b) (suc i) p (begun-deriv g i b w)

  -- the theorem
  take_more : (c : Part L) (g : Grammar L) (i : ℕ) (t : List ℕ) (ps : List (Part L)) → c.start < i
      → (past c.start c.text ≡ i) ⊎ (T (still? g) × (past c.start c.text ≤ i)) → Parses g i t ps → take (i - c.start) (c.text ++ t) ≡ c.text
  take_more c g i t ps l (inl e) m = take_at c.text t (i - c.start) (omega (arith, past-length c.start c.text))
  take_more c g i t ps l (inr e) m =
      rw (still_nil g i t ps e.0 m, append-nil) (all c.text (i - c.start) (omega (arith, past-length c.start c.text, e.1)))
    where
      all : (s : List ℕ) (n : ℕ) → length s ≤ n → take n s ≡ s
      all [] zero h = refl
      all [] (suc n) h = refl
      all (b ∷ s) zero h = absurd (omega arith)
      all (b ∷ s) (suc n) h = ap (λ (l : List ℕ). b ∷ l) (all s n (omega arith))

  here : (h : Grammar L) (i : ℕ) (t u : List ℕ) (ps : List (Part L)) → t ≡ [] → Parses h (past i t) u ps → Parses h i u ps
  here h i [] u ps e m = m
  here h i (b ∷ t) u ps e m = absurd (cons≢nil e)

  before-one : (i : ℕ) (c : Part L) (t : List ℕ) (qs l : List (Part L)) → c.start < i → take (i - c.start) (c.text ++ t) ≡ c.text
      → parts_before i qs ≡ l → parts_before i (grown c t ∷ qs) ≡ c ∷ l
  before-one i c t qs l s e f =
      rw (lt-ltb c.start i s)
      (ap (λ (x : List ℕ). record { label = c.label; start = c.start; text = x } ∷ parts_before i qs) e ∙ ap (λ (k : List (Part L)). c ∷ k) f)

  pub held-before : (g : Grammar L) (i : ℕ) (t : List ℕ) (ps : List (Part L)) → Begun i g → T (clear? g) → Parses g i t ps
      → parts_before i ps ≡ held g
  held-before void i t ps w f m = absurd m
  held-before empty i t ps w f m = ap (parts_before i) m.1
  held-before (byte c) i t ps w f m = ap (parts_before i) m.3
  held-before (g ⨾ h) i t ps (inl w) f m =
      ap (parts_before i) m.5 ∙ before_append i m.2 m.3
      ∙ ap (λ (l : List (Part L)). l ++ parts_before i m.3) (held-before g i m.0 m.2 w.0 (T-left (clear? g) (clear? h) f) m.6)
      ∙ ap (λ (l : List (Part L)). held g ++ l) (fresh-before h i (past i m.0) m.1 m.3 w.1 (past_le i m.0) m.7 ∙ sym (fresh-held h w.1))
  held-before (g ⨾ h) i t ps (inr w) f m =
      ap (parts_before i) m.5 ∙ before_append i m.2 m.3
      ∙ ap (λ (l : List (Part L)). l ++ parts_before i m.3) (held-before g i m.0 m.2 w.1 (T-left (clear? g) (clear? h) f) m.6)
      ∙ ap (λ (l : List (Part L)). held g ++ l)
      (held-before h i m.1 m.3 w.2 (T-right (clear? g) (clear? h) f) (here h i m.0 m.1 m.3 (still_nil g i m.0 m.2 w.0 m.6) m.7))
  held-before (g ∣ h) i t ps w f m =
      fresh-before (g ∣ h) i i t ps f (omega arith) m ∙ sym (fresh-held g (T-left (fresh? g) (fresh? h) f))
  held-before (star g) i t ps w f m = fresh-before (star g) i i t ps f (omega arith) m
  held-before (part l g) i t ps w f m = fresh-before (part l g) i i t ps f (omega arith) m
  held-before (rest c g) i t ps w f m =
      ap (parts_before i) m.1 ∙ before-one i c t m.0 (held g) w.1 (take_more c g i t m.0 w.1 w.2 m.2) (held-before g i t m.0 w.0 f m.2)
  held-before (nest o c l m g r n) i t ps w f k =
      ap (parts_before i) k.5 ∙ before_append i k.2 k.3
      ∙ ap (λ (x : List (Part L)). x ++ parts_before i k.3) (held-before r i k.0 k.2 w.1 (T-right (fresh? g) (clear? r) f) k.6)
      ∙ ap (λ (x : List (Part L)). held r ++ x)
      (fresh-nest o c l m i (Parses g) (λ v u qs y z. fresh-before g i v u qs w.0 y z) (suc n) (past i k.0) (past_le i k.0) k.1 k.3 k.7)
      ∙ append-nil (held r)

  -- at the end of a text
  fresh-end : (g : Grammar L) (i : ℕ) (ps : List (Part L)) → T (fresh? g) → T (still? g) → Parses g i [] ps → ps ≡ []
  fresh-end void i ps f s m = absurd m
  fresh-end empty i ps f s m = m.1
  fresh-end (byte c) i ps f s m = absurd s
  fresh-end (g ⨾ h) i ps f s m =
      let z = seq_nil g h i ps m.0 m.1 m.2 m.3 m.4 m.5 m.6 m.7 in
      let first = fresh-end g i z.0 (T-left (fresh? g) (fresh? h) f) (T-left (still? g) (still? h) s) z.3 in
      let second = fresh-end h i z.1 (T-right (fresh? g) (fresh? h) f) (T-right (still? g) (still? h) s) z.4 in
      rw (z.2, first, second)
  fresh-end (g ∣ h) i ps f s (inl m) = fresh-end g i ps (T-left (fresh? g) (fresh? h) f) (T-left (still? g) (still? h) s) m
  fresh-end (g ∣ h) i ps f s (inr m) = fresh-end h i ps (T-right (fresh? g) (fresh? h) f) (T-right (still? g) (still? h) s) m
  fresh-end (star g) i ps f s m = absurd s
  fresh-end (part l g) i ps f s m = absurd s
  fresh-end (rest c g) i ps f s m = absurd f
  fresh-end (nest o c l m g r n) i ps f s k = absurd s

  pub held-end : (g : Grammar L) (i : ℕ) (ps : List (Part L)) → T (clear? g) → T (still? g) → Parses g i [] ps → ps ≡ held g
  held-end void i ps f s m = absurd m
  held-end empty i ps f s m = m.1
  held-end (byte c) i ps f s m = absurd s
  held-end (g ⨾ h) i ps f s m =
      let z = seq_nil g h i ps m.0 m.1 m.2 m.3 m.4 m.5 m.6 m.7 in
      let first = held-end g i z.0 (T-left (clear? g) (clear? h) f) (T-left (still? g) (still? h) s) z.3 in
      let second = held-end h i z.1 (T-right (clear? g) (clear? h) f) (T-right (still? g) (still? h) s) z.4 in
      rw (z.2, first, second)
  held-end (g ∣ h) i ps f s m = fresh-end (g ∣ h) i ps f s m ∙ sym (fresh-held g (T-left (fresh? g) (fresh? h) f))
  held-end (star g) i ps f s m = absurd s
  held-end (part l g) i ps f s m = absurd s
  held-end (rest c g) i ps f s m =
      m.1 ∙ ap (λ (x : List ℕ). record { label = c.label; start = c.start; text = x } ∷ m.0) (append-nil c.text) ∙ ap (λ (k : List (Part L)). c ∷ k) (held-end g i m.0 f s m.2)
  held-end (nest o c l m g r n) i ps f s k = absurd s
