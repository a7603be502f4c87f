-- A grammar in which each byte may be read in one way only, except before a part begins: what a byte leaves of it is such a grammar again,
-- so that the parts that have begun are the same on every way through it.
use Prim.Native.Nat.{ℕ, zero, suc}
use mathlib.Core.Path.{◌≡◌, refl}
use mathlib.Core.Logic.{◌⊎◌, inl, inr, ⊎_elim}
use mathlib.Core.Bool.{Bool, true, false, cond}
use mathlib.Core.List.{List, [], ◌∷◌}
use lib.Dec.{T}
use Rattle.grammar.specs.Grammar.{Class, Part, Grammar, void, empty, byte, ◌⨾◌, ◌∣◌, star, part, rest, nest, past, grown}
use Rattle.grammar.specs.helpers.Derivative.{then, seq, alt, during, inside, closed, ends, deriv, residual}
use Rattle.grammar.proofs.Forms.{then-all, seq-all, alt-all, during-all, inside-all}
use Rattle.grammar.specs.helpers.Checks.{fresh?, clear?}
use Rattle.grammar.proofs.Derivative.{T-both}
use Rattle.grammar.proofs.Shapes.{alt-void, seq-void}
use Rattle.grammar.proofs.Exact.{Steady}

abbrev Apart : (ℕ → Type 0) → (ℕ → Type 0) → Type 0
Apart P Q = (b : ℕ) → P b → Q b → ⊥

module _ {L : Type 0} where
  -- the empty text is one of g's
  abbrev pub Null : Grammar L → Type 0
  Null void = ⊥
  Null empty = Unit {0}
  Null (byte c) = ⊥
  Null (g ⨾ h) = Null g × Null h
  Null (g ∣ h) = Null g ⊎ Null h
  Null (star g) = Unit {0}
  Null (part l g) = Null g
  Null (rest c g) = Null g
  Null (nest o c l m g r n) = ⊥

  -- b may begin a text of g
  abbrev pub First : Grammar L → ℕ → Type 0
  First void b = ⊥
  First empty b = ⊥
  First (byte c) b = T (c.has b)
  First (g ⨾ h) b = First g b ⊎ (Null g × First h b)
  First (g ∣ h) b = First g b ⊎ First h b
  First (star g) b = First g b
  First (part l g) b = First g b
  First (rest c g) b = First g b
  First (nest o c l m g r n) b = First r b ⊎ (Null r × (T (o.has b) ⊎ (T (c.has b) ⊎ First g b)))

  -- after a text of g, b may go on with a longer one
  abbrev pub Goes : Grammar L → ℕ → Type 0
  Goes void b = ⊥
  Goes empty b = ⊥
  Goes (byte c) b = ⊥
  Goes (g ⨾ h) b = Goes h b ⊎ (Null h × Goes g b)
  Goes (g ∣ h) b = (Goes g b ⊎ Goes h b) ⊎ ((Null g × First h b) ⊎ (Null h × First g b))
  Goes (star g) b = First g b ⊎ Goes g b
  Goes (part l g) b = Goes g b
  Goes (rest c g) b = Goes g b
  Goes (nest o c l m g r n) b = ⊥

  -- within nested levels, b opens one, closes one or begins an item
  abbrev Turns : Class → Class → Grammar L → ℕ → Type 0
  Turns o c g b = T (o.has b) ⊎ (T (c.has b) ⊎ First g b)

  -- along every text at least one of the two is gone before a part begins or a text ends
  pub data Parted : Grammar L → Grammar L → Type 0 where
    left : {g h : Grammar L} → g ≡ void → Parted g h
    right : {g h : Grammar L} → h ≡ void → Parted g h
    on : {g h : Grammar L} → T (fresh? g) → T (fresh? h) → (Null g → ⊥) → (Null h → ⊥) → ((i a : ℕ) → Parted (deriv g i a) (deriv h i a))
        → Parted g h

  -- each byte may be read in one way only, except before a part begins
  abbrev pub Det : Grammar L → Type 0
  Det void = Unit {0}
  Det empty = Unit {0}
  Det (byte c) = Unit {0}
  Det (g ⨾ h) = Det g × Det h × Apart (Goes g) (First h)
  Det (g ∣ h) = T (fresh? g) × T (fresh? h) × Det g × Det h × (Null g → Null h → ⊥) × ((i a : ℕ) → Parted (deriv g i a) (deriv h i a))
  Det (star g) = T (fresh? g) × Det g × Apart (Goes g) (First g)
  Det (part l g) = T (fresh? g) × Det g
  Det (rest c g) = Det g
  Det (nest o c l m g r n) =
      T (fresh? g) × Det g × Det r × Apart (Goes g) (Turns o c g) × Apart (Goes r) (Turns o c g)
      × Apart (λ b. T (o.has b)) (λ b. T (c.has b)) × Apart (λ b. T (o.has b)) (First g) × Apart (λ b. T (c.has b)) (First g)

  pub det_clear : (g : Grammar L) → Det g → T (clear? g)
  det_clear void d = tt
  det_clear empty d = tt
  det_clear (byte c) d = tt
  det_clear (g ⨾ h) d = T-both (clear? g) (clear? h) (det_clear g d.0) (det_clear h d.1)
  det_clear (g ∣ h) d = T-both (fresh? g) (fresh? h) d.0 d.1
  det_clear (star g) d = d.0
  det_clear (part l g) d = d.0
  det_clear (rest c g) d = det_clear g d
  det_clear (nest o c l m g r n) d = T-both (fresh? g) (clear? r) d.0 (det_clear r d.2)

  null_goes : (g : Grammar L) (b : ℕ) → Null g → First g b → Goes g b
  null_goes void b n f = f
  null_goes empty b n f = f
  null_goes (byte c) b n f = n
  null_goes (g ⨾ h) b n (inl f) = inr (n.1, null_goes g b n.0 f)
  null_goes (g ⨾ h) b n (inr f) = inl (null_goes h b n.1 f.1)
  null_goes (g ∣ h) b (inl n) (inl f) = inl (inl (null_goes g b n f))
  null_goes (g ∣ h) b (inl n) (inr f) = inr (inl (n, f))
  null_goes (g ∣ h) b (inr n) (inl f) = inr (inr (n, f))
  null_goes (g ∣ h) b (inr n) (inr f) = inl (inr (null_goes h b n f))
  null_goes (star g) b n f = inl f
  null_goes (part l g) b n f = null_goes g b n f
  null_goes (rest c g) b n f = null_goes g b n f
  null_goes (nest o c l m g r k) b n f = n

  -- `then`, `alt`, `during` and `inside` are ⨾, ∣, rest and nest, or void stands in them
  module _ (P : Grammar L → Type 0) where
    then_elim : (g h : Grammar L) → P void → (h ≡ empty → P g) → P (g ⨾ h) → P (then g h)
    then_elim = then-all (λ g h k. P void → (h ≡ empty → P g) → P (g ⨾ h) → P k) (λ g u v w. u) (λ g u v w. v refl) (λ g h u v w. w)

    pub alt_elim : (g h : Grammar L) → P g → P h → P (g ∣ h) → P (alt g h)
    alt_elim = alt-all (λ g h k. P g → P h → P (g ∣ h) → P k) (λ h u v w. v) (λ g u v w. u) (λ g h u v w. w)

    during_elim : (c : Part L) (g : Grammar L) → P void → P (rest c g) → P (during c g)
    during_elim c = during-all (λ g k. P void → P (rest c g) → P k) (λ u w. u) c (λ g u w. w)

    inside_elim : (o c : Class) (l m : L) (g : Grammar L) (n : ℕ) (r : Grammar L) → P void → P (nest o c l m g r n)
        → P (inside o c l m g n r)
    inside_elim o c l m g n = inside-all (λ r k. P void → P (nest o c l m g r n) → P k) (λ u w. u) o c l m g n (λ r u w. w)

    -- where one side is void
    alt-one : (g h : Grammar L) → (g ≡ void) ⊎ (h ≡ void) → P g → P h → P (alt g h)
    alt-one g h (inl e) u v = rw e v
    alt-one g h (inr e) u v = rw (e, alt-void g) u

  -- ## h may do what g may do
  abbrev Within : Grammar L → Grammar L → Type 0
  Within g h = (Null g → Null h) × ((b : ℕ) → First g b → First h b) × ((b : ℕ) → Goes g b → Goes h b)

  within_all : (g : Grammar L) → Within g g
  within_all g = (λ n. n, λ b f. f, λ b f. f)

  within-void : (g : Grammar L) → Within void g
  within-void g = (λ n. absurd n, λ b f. absurd f, λ b f. absurd f)

  within_trans : (f g h : Grammar L) → Within f g → Within g h → Within f h
  within_trans f g h v w = (λ n. w.0 (v.0 n), λ b x. w.1 b (v.1 b x), λ b x. w.2 b (v.2 b x))

  within-last : (f g h : Grammar L) → Within g h → Within (f ⨾ g) (f ⨾ h)
  within-last f g h v = (
    λ n. (n.0, v.0 n.1),
    λ b. ⊎_elim inl (λ x. inr (x.0, v.1 b x.1)),
    λ b. ⊎_elim (λ x. inl (v.2 b x)) (λ x. inr (v.0 x.0, x.1)),
  )

  within_assoc : (f g h : Grammar L) → Within (f ⨾ (g ⨾ h)) ((f ⨾ g) ⨾ h)
  within_assoc f g h = (
    λ n. ((n.0, n.1.0), n.1.1),
    λ b. ⊎_elim (λ x. inl (inl x)) (λ x. ⊎_elim (λ y. inl (inr (x.0, y))) (λ y. inr ((x.0, y.0), y.1)) x.1),
    λ b. ⊎_elim (⊎_elim inl (λ x. inr (x.0, inl x.1))) (λ x. inr (x.0.1, inr (x.0.0, x.1))),
  )

  then-within : (g h : Grammar L) → Within (then g h) (g ⨾ h)
  then-within g h =
      then_elim (λ x. Within x (g ⨾ h)) g h (within-void (g ⨾ h))
      (λ e. rw e (λ n. (n, tt), λ b f. inl f, λ b f. inr (tt, f)))
      (within_all (g ⨾ h))

  seq-within : (g h : Grammar L) → Within (seq g h) (g ⨾ h)
  seq-within =
      seq-all (λ g h k. Within k (g ⨾ h)) (λ h. within-void (void ⨾ h)) (λ h. (λ n. (tt, n), λ b f. inr (tt, f), λ b f. inl f)) then-within
      (λ f g h x y.
      within_trans (seq f (seq g h)) (f ⨾ seq g h) ((f ⨾ g) ⨾ h) x
      (within_trans (f ⨾ seq g h) (f ⨾ (g ⨾ h)) ((f ⨾ g) ⨾ h) (within-last f (seq g h) (g ⨾ h) y) (within_assoc f g h)))

  det_then : (g h : Grammar L) → Det (g ⨾ h) → Det (then g h)
  det_then g h d = then_elim Det g h tt (λ e. d.0) d

  det_seq : (g h : Grammar L) → Det (g ⨾ h) → Det (seq g h)
  det_seq =
      seq-all (λ g h k. Det (g ⨾ h) → Det k) (λ h d. tt) (λ h d. d.1) det_then
      (λ f g h x y d.
      x (
        d.0.0,
        y (d.0.1, d.1, λ b z. d.2 b (inl z)),
        λ b z w. ⊎_elim (λ a. d.0.2 b z a) (λ a. d.2 b (inr (a.0, z)) a.1) ((seq-within g h).1 b w),
      ))

  -- ## The empty text: no byte
  abbrev Quiet : Grammar L → Type 0
  Quiet g = ((b : ℕ) → First g b → ⊥) × ((b : ℕ) → Goes g b → ⊥)

  quiet-seq : (g h : Grammar L) → Quiet g → Quiet h → Quiet (seq g h)
  quiet-seq g h v w = (
    λ b x. ⊎_elim (v.0 b) (λ y. w.0 b y.1) ((seq-within g h).1 b x),
    λ b x. ⊎_elim (w.1 b) (λ y. v.1 b y.1) ((seq-within g h).2 b x),
  )

  quiet-alt : (g h : Grammar L) → Quiet g → Quiet h → Quiet (alt g h)
  quiet-alt g h v w =
      alt_elim Quiet g h v w
      (λ b. ⊎_elim (v.0 b) (w.0 b), λ b. ⊎_elim (⊎_elim (v.1 b) (w.1 b)) (⊎_elim (λ x. w.0 b x.1) (λ x. v.0 b x.1)))

  quiet-ends : (g : Grammar L) (i : ℕ) → Quiet (ends g i)
  quiet-ends void i = (λ b x. x, λ b x. x)
  quiet-ends empty i = (λ b x. x, λ b x. x)
  quiet-ends (byte c) i = (λ b x. x, λ b x. x)
  quiet-ends (g ⨾ h) i = quiet-seq (ends g i) (ends h i) (quiet-ends g i) (quiet-ends h i)
  quiet-ends (g ∣ h) i = quiet-alt (ends g i) (ends h i) (quiet-ends g i) (quiet-ends h i)
  quiet-ends (star g) i = (λ b x. x, λ b x. x)
  quiet-ends (part l g) i =
      during_elim Quiet (record { label = l; start = i; text = [] }) (ends g i) (λ b x. x, λ b x. x) (quiet-ends g i)
  quiet-ends (rest c g) i = during_elim Quiet c (ends g i) (λ b x. x, λ b x. x) (quiet-ends g i)
  quiet-ends (nest o c l m g r n) i = (λ b x. x, λ b x. x)

  alt_gone : (g h : Grammar L) → g ≡ void → h ≡ void → alt g h ≡ void
  alt_gone g h e f = rw (e, f)

  seq-none : (g h : Grammar L) → g ≡ void → seq g h ≡ void
  seq-none g h e = rw e

  seq_gone : (g h : Grammar L) → h ≡ void → seq g h ≡ void
  seq_gone g h e = rw (e, seq-void g)

  inside-none : (o c : Class) (l m : L) (g : Grammar L) (n : ℕ) (r : Grammar L) → r ≡ void → inside o c l m g n r ≡ void
  inside-none o c l m g n r e = rw e

  ends-void : (g : Grammar L) (i : ℕ) → (ends g i ≡ void) ⊎ Null g
  ends-void void i = inl refl
  ends-void empty i = inr tt
  ends-void (byte c) i = inl refl
  ends-void (g ⨾ h) i =
      ⊎_elim (λ e. inl (rw e)) (λ n. ⊎_elim (λ e. inl (seq_gone (ends g i) (ends h i) e)) (λ m. inr (n, m)) (ends-void h i)) (ends-void g i)
  ends-void (g ∣ h) i =
      ⊎_elim (λ e. ⊎_elim (λ f. inl (alt_gone (ends g i) (ends h i) e f)) (λ n. inr (inr n)) (ends-void h i)) (λ n. inr (inl n)) (ends-void g i)
  ends-void (star g) i = inr tt
  ends-void (part l g) i = ⊎_elim (λ e. inl (rw e)) inr (ends-void g i)
  ends-void (rest c g) i = ⊎_elim (λ e. inl (rw e)) inr (ends-void g i)
  ends-void (nest o c l m g r n) i = inl refl

  pub det_ends : (g : Grammar L) (i : ℕ) → Det g → Det (ends g i)
  det_ends void i d = tt
  det_ends empty i d = tt
  det_ends (byte c) i d = tt
  det_ends (g ⨾ h) i d =
      det_seq (ends g i) (ends h i) (det_ends g i d.0, det_ends h i d.1, λ b x y. (quiet-ends g i).1 b x)
  det_ends (g ∣ h) i d =
      alt-one Det (ends g i) (ends h i)
      (⊎_elim inl (λ n. ⊎_elim inr (λ m. absurd (d.4 n m)) (ends-void h i)) (ends-void g i))
      (det_ends g i d.2) (det_ends h i d.3)
  det_ends (star g) i d = tt
  det_ends (part l g) i d = during_elim Det (record { label = l; start = i; text = [] }) (ends g i) tt (det_ends g i d.1)
  det_ends (rest c g) i d = during_elim Det c (ends g i) tt (det_ends g i d)
  det_ends (nest o c l m g r n) i d = tt

  -- ## A byte
  test-void : (t : Bool) (g : Grammar L) → (cond t g void ≡ void) ⊎ T t
  test-void true g = inr tt
  test-void false g = inl refl

  module _ (i b : ℕ) where
    -- what may follow within nested levels
    module _ (o c : Class) (l m : L) (g : Grammar L) (n : ℕ) where
      abbrev up : Grammar L
      up = cond (o.has b) (rest (record { label = l; start = i; text = b ∷ [] }) empty ⨾ nest o c l m g empty (suc n)) void

      abbrev down : Grammar L
      down = cond (c.has b) (then (rest (record { label = m; start = i; text = b ∷ [] }) empty) (closed o c l m g n)) void

      abbrev items : Grammar L
      items = inside o c l m g n (deriv g i b)

      up-void : (up ≡ void) ⊎ T (o.has b)
      up-void = test-void (o.has b) (rest (record { label = l; start = i; text = b ∷ [] }) empty ⨾ nest o c l m g empty (suc n))

      down-void : (down ≡ void) ⊎ T (c.has b)
      down-void = test-void (c.has b) (then (rest (record { label = m; start = i; text = b ∷ [] }) empty) (closed o c l m g n))

      turn-void : ((deriv g i b ≡ void) ⊎ First g b) → (alt up (alt down items) ≡ void) ⊎ Turns o c g b
      turn-void f =
          ⊎_elim
          (λ p.
          ⊎_elim
          (λ q.
          ⊎_elim
          (λ r. inl (alt_gone up (alt down items) p (alt_gone down items q (inside-none o c l m g n (deriv g i b) r))))
          (λ x. inr (inr (inr x))) f)
          (λ x. inr (inr (inl x))) down-void)
          (λ x. inr (inl x)) up-void

    pub deriv-void : (g : Grammar L) → (deriv g i b ≡ void) ⊎ First g b
    deriv-void void = inl refl
    deriv-void empty = inl refl
    deriv-void (byte c) = test-void (c.has b) empty
    deriv-void (g ⨾ h) =
        let x = seq (deriv g i b) h in
        let y = seq (ends g i) (deriv h i b) in
        ⊎_elim
        (λ e.
        ⊎_elim (λ f. inl (alt_gone x y (seq-none (deriv g i b) h e) (seq-none (ends g i) (deriv h i b) f)))
        (λ n. ⊎_elim (λ f. inl (alt_gone x y (seq-none (deriv g i b) h e) (seq_gone (ends g i) (deriv h i b) f))) (λ z. inr (inr (n, z))) (deriv-void h))
        (ends-void g i))
        (λ z. inr (inl z)) (deriv-void g)
    deriv-void (g ∣ h) =
        ⊎_elim (λ e. ⊎_elim (λ f. inl (alt_gone (deriv g i b) (deriv h i b) e f)) (λ x. inr (inr x)) (deriv-void h)) (λ x. inr (inl x)) (deriv-void g)
    deriv-void (star g) = ⊎_elim (λ e. inl (rw e)) inr (deriv-void g)
    deriv-void (part l g) = ⊎_elim (λ e. inl (rw e)) inr (deriv-void g)
    deriv-void (rest c g) = ⊎_elim (λ e. inl (rw e)) inr (deriv-void g)
    deriv-void (nest o c l m g r n) =
        let x = inside o c l m g n (deriv r i b) in
        let y = alt (up o c l m g n) (alt (down o c l m g n) (items o c l m g n)) in
        ⊎_elim
        (λ e.
        ⊎_elim (λ f. inl (alt_gone x (seq (ends r i) y) (inside-none o c l m g n (deriv r i b) e) (seq-none (ends r i) y f)))
        (λ k.
        ⊎_elim (λ f. inl (alt_gone x (seq (ends r i) y) (inside-none o c l m g n (deriv r i b) e) (seq_gone (ends r i) y f))) (λ z. inr (inr (k, z)))
        (turn-void o c l m g n (deriv-void g)))
        (ends-void r i))
        (λ z. inr (inl z)) (deriv-void r)

  -- x is deterministic, and goes on after its texts as k does
  abbrev Onward : Grammar L → Grammar L → Type 0
  Onward k x = Det x × ((b : ℕ) → Goes x b → Goes k b)

  onward-void : (k : Grammar L) → Onward k void
  onward-void k = (tt, λ b x. absurd x)

  -- a byte of g, in g and then h
  onward-front : (g h x : Grammar L) → Det h → Apart (Goes g) (First h) → Onward g x → Onward (g ⨾ h) (seq x h)
  onward-front g h x d v w = (
    det_seq x h (w.0, d, λ b y z. v b (w.1 b y) z),
    λ b y. ⊎_elim inl (λ z. inr (z.0, w.1 b z.1)) ((seq-within x h).2 b y),
  )

  -- a byte after parts that have ended
  onward-back : (k e x : Grammar L) → Det e → Quiet e → Onward k x → Onward k (seq e x)
  onward-back k e x d q w = (
    det_seq e x (d, w.0, λ b y z. q.1 b y),
    λ b y. ⊎_elim (w.1 b) (λ z. absurd (q.1 b z.1)) ((seq-within e x).2 b y),
  )

  -- a byte of g or h
  onward-alt : (g h x y : Grammar L) → Parted x y → Onward g x → Onward h y → Onward (g ∣ h) (alt x y)
  onward-alt g h x y s u v =
      let left-only : Onward (g ∣ h) x = (u.0, λ b z. inl (inl (u.1 b z))) in
      let right-only : Onward (g ∣ h) y = (v.0, λ b z. inl (inr (v.1 b z))) in
      go s left-only right-only
    where
      go : {x y : Grammar L} → Parted x y → Onward (g ∣ h) x → Onward (g ∣ h) y → Onward (g ∣ h) (alt x y)
      go {x} {y} (left e) u v = alt-one (Onward (g ∣ h)) x y (inl e) u v
      go {x} {y} (right e) u v = alt-one (Onward (g ∣ h)) x y (inr e) u v
      go {x} {y} (on e f p q s) u v =
          alt_elim (Onward (g ∣ h)) x y u v (
            (e, f, u.0, v.0, λ n. absurd (p n), s),
            λ b. ⊎_elim (⊎_elim (u.1 b) (v.1 b)) (⊎_elim (λ z. absurd (p z.0)) (λ z. absurd (q z.0))),
          )

  -- a byte within nested levels
  module _ (o c : Class) (l m : L) (g r : Grammar L) (n : ℕ) (d : Det (nest o c l m g r n)) where
    -- between items, with k + 1 open levels
    between : (k : ℕ) → Det (nest o c l m g empty k)
    between k = (d.0, d.1, tt, d.3, λ b x. absurd x, d.5, d.6, d.7)

    module _ (k : Grammar L) (i b : ℕ) where
      onward-test : (t : Bool) (x : Grammar L) → Onward k x → Onward k (cond t x void)
      onward-test true x w = w
      onward-test false x w = onward-void k

      -- within an item
      onward-item : (h x : Grammar L) → Apart (Goes h) (Turns o c g) → Onward h x → Onward k (inside o c l m g n x)
      onward-item h x v w =
          inside_elim (Onward k) o c l m g n x (onward-void k)
          ((d.0, d.1, w.0, d.3, λ a y. v a (w.1 a y), d.5, d.6, d.7), λ a y. absurd y)

      onward-up : Onward k (up i b o c l m g n)
      onward-up =
          onward-test (o.has b) (rest (record { label = l; start = i; text = b ∷ [] }) empty ⨾ nest o c l m g empty (suc n))
          ((tt, between (suc n), λ a y. absurd y), λ a. ⊎_elim (λ y. absurd y) (λ y. absurd y.0))

      onward-down : Onward k (down i b o c l m g n)
      onward-down = onward-test (c.has b) (then (rest two empty) (closed o c l m g n)) (go n)
        where
          two : Part L
          two = record { label = m; start = i; text = b ∷ [] }

          go : (n : ℕ) → Onward k (then (rest two empty) (closed o c l m g n))
          go zero = (tt, λ a y. absurd y)
          go (suc n) = ((tt, between n, λ a y. absurd y), λ a. ⊎_elim (λ y. absurd y) (λ y. absurd y.0))

      items-void : (T (o.has b) ⊎ T (c.has b)) → items i b o c l m g n ≡ void
      items-void v =
          ⊎_elim (inside-none o c l m g n (deriv g i b)) (λ f. absurd (⊎_elim (λ x. d.6 b x f) (λ x. d.7 b x f) v)) (deriv-void i b g)

      onward-turn : Onward g (deriv g i b) → Onward k (alt (up i b o c l m g n) (alt (down i b o c l m g n) (items i b o c l m g n)))
      onward-turn w =
          alt-one (Onward k) U (alt D I)
          (⊎_elim inl
          (λ x.
          inr (alt_gone D I (⊎_elim (λ e. e) (λ y. absurd (d.5 b x y)) (down-void i b o c l m g n)) (items-void (inl x))))
          (up-void i b o c l m g n))
          onward-up
          (alt-one (Onward k) D I (⊎_elim inl (λ x. inr (items-void (inr x))) (down-void i b o c l m g n)) onward-down
          (onward-item g (deriv g i b) d.3 w))
        where
          U : Grammar L
          U = up i b o c l m g n

          D : Grammar L
          D = down i b o c l m g n

          I : Grammar L
          I = items i b o c l m g n

  -- what a byte leaves of a deterministic grammar is deterministic
  onward : (g : Grammar L) (i b : ℕ) → Det g → Onward g (deriv g i b)
  onward void i b d = onward-void void
  onward empty i b d = onward-void empty
  onward (byte c) i b d = go (c.has b)
    where
      go : (t : Bool) → Onward (byte c) (cond t empty void)
      go true = (tt, λ a x. x)
      go false = (tt, λ a x. x)
  onward (g ⨾ h) i b d =
      alt-one (Onward (g ⨾ h)) (seq (deriv g i b) h) (seq (ends g i) (deriv h i b))
      (⊎_elim (λ e. inl (seq-none (deriv g i b) h e))
      (λ x.
      inr (⊎_elim (seq-none (ends g i) (deriv h i b))
      (λ n. seq_gone (ends g i) (deriv h i b) (⊎_elim (λ e. e) (λ y. absurd (d.2 b (null_goes g b n x) y)) (deriv-void i b h))) (ends-void g i)))
      (deriv-void i b g))
      (onward-front g h (deriv g i b) d.1 d.2 (onward g i b d.0))
      (onward-back (g ⨾ h) (ends g i) (deriv h i b) (det_ends g i d.0) (quiet-ends g i)
      (let w = onward h i b d.1 in (w.0, λ a x. inl (w.1 a x))))
  onward (g ∣ h) i b d = onward-alt g h (deriv g i b) (deriv h i b) (d.5 i b) (onward g i b d.2) (onward h i b d.3)
  onward (star g) i b d =
      let w = onward-front g (star g) (deriv g i b) d d.2 (onward g i b d.1) in
      (w.0, λ a x. ⊎_elim (λ y. y) (λ y. inr y.1) (w.1 a x))
  onward (part l g) i b d =
      during_elim (Onward g) (record { label = l; start = i; text = b ∷ [] }) (deriv g i b) (onward-void g) (onward g i b d.1)
  onward (rest c g) i b d = during_elim (Onward g) (grown c (b ∷ [])) (deriv g i b) (onward-void g) (onward g i b d)
  onward (nest o c l m g r n) i b d =
      alt-one (Onward k) (inside o c l m g n (deriv r i b)) (seq (ends r i) turn)
      (⊎_elim (λ e. inl (inside-none o c l m g n (deriv r i b) e))
      (λ x.
      inr (⊎_elim (seq-none (ends r i) turn)
      (λ z. seq_gone (ends r i) turn (⊎_elim (λ e. e) (λ y. absurd (d.4 b (null_goes r b z x) y)) (turn-void i b o c l m g n (deriv-void i b g)))) (ends-void r i)))
      (deriv-void i b r))
      (onward-item o c l m g r n d k i b r (deriv r i b) d.4 (onward r i b d.2))
      (onward-back k (ends r i) turn (det_ends r i d.2) (quiet-ends r i) (onward-turn o c l m g r n d k i b (onward g i b d.1)))
    where
      k : Grammar L
      k = nest o c l m g r n

      turn : Grammar L
      turn = alt (up i b o c l m g n) (alt (down i b o c l m g n) (items i b o c l m g n))

  pub det_after : (g : Grammar L) (i : ℕ) (p : List ℕ) → Det g → Det (residual g i p)
  det_after g i [] d = d
  det_after g i (b ∷ p) d = det_after (deriv g i b) (suc i) p (onward g i b d).0

  pub det_steady : (g : Grammar L) → Det g → Steady g
  det_steady g d p =
      let e = det_after g 0 p d in
      (det_clear (residual g 0 p) e, det_clear (ends (residual g 0 p) (past 0 p)) (det_ends (residual g 0 p) (past 0 p) e))
