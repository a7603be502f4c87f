-- A check of a grammar that computes, `deterministic?`, and what it shows: the parts that have begun are the same on every way through the
-- grammar. For a grammar g that is written out, `deterministic_steady g tt tt`, with the tests of its classes unfolded.
use Prim.Native.Nat.{ℕ, zero, suc, ◌<◌}
use native.Mathlib.Omega.{arith}
use mathlib.Core.Path.{◌≡◌, refl}
use mathlib.Core.Logic.{◌⊎◌, inl, inr, ⊎_elim}
use mathlib.Core.Bool.{Bool, true, false, cond, ◌&&◌, ◌||◌, not}
use mathlib.Core.List.{List, [], ◌∷◌, ◌++◌}
use lib.Dec.{T, T_not, eqb, ltb→lt}
use borrow.Author.Tests.{eqb-true, eqb-false}
use Rattle.grammar.specs.Grammar.{Class, Grammar, void, empty, byte, ◌⨾◌, ◌∣◌, star, part, rest, nest, T-left, T-right}
use Rattle.grammar.specs.helpers.Derivative.{nullable, alt, deriv}
use Rattle.grammar.specs.helpers.Checks.{fresh?}
use Rattle.grammar.proofs.Derivative.{T-both, T_or, T_case}
use Rattle.grammar.proofs.Shapes.{alt-void, byte_step}
use Rattle.grammar.proofs.Exact.{Steady}
use Rattle.grammar.proofs.OneWay.{Null, First, Goes, Parted, left, right, on, Det, det_steady, deriv-void, alt_elim}

-- ## The check

-- no number below n is in both
abbrev pub disjoint : Class → Class → ℕ → Bool
disjoint c d zero = true
disjoint c d (suc n) = not (c.has n && d.has n) && disjoint c d n

abbrev pub apart_one : Class → List Class → Bool
apart_one c [] = true
apart_one c (d ∷ ds) = disjoint c d 256 && apart_one c ds

-- no byte is in a class of both
abbrev pub apart : List Class → List Class → Bool
apart [] ds = true
apart (c ∷ cs) ds = apart_one c ds && apart cs ds

-- cs where the test passes, none where it does not
abbrev pub kept : Bool → List Class → List Class
kept true cs = cs
kept false cs = []

module _ {L : Type 0} where
  -- the classes of a byte that may begin a text of g
  abbrev pub firsts : Grammar L → List Class
  firsts void = []
  firsts empty = []
  firsts (byte c) = c ∷ []
  firsts (g ⨾ h) = firsts g ++ kept (nullable g) (firsts h)
  firsts (g ∣ h) = firsts g ++ firsts h
  firsts (star g) = firsts g
  firsts (part l g) = firsts g
  firsts (rest c g) = firsts g
  firsts (nest o c l m g r n) = firsts r ++ kept (nullable r) (o ∷ (c ∷ firsts g))

  -- the classes of a byte that may go on with a longer text of g, after a text of g
  abbrev pub follows : Grammar L → List Class
  follows void = []
  follows empty = []
  follows (byte c) = []
  follows (g ⨾ h) = follows h ++ kept (nullable h) (follows g)
  follows (g ∣ h) = (follows g ++ follows h) ++ (kept (nullable g) (firsts h) ++ kept (nullable h) (firsts g))
  follows (star g) = firsts g ++ follows g
  follows (part l g) = follows g
  follows (rest c g) = follows g
  follows (nest o c l m g r n) = []

  -- Alternatives that share their first letters, as Tue and Thu: no part begins in the letters, so it does no harm that a letter may be read
  -- in two ways. A word is written to the right, byte by byte, as `lit` and `spell` write it.
  pub data Head : Grammar L → Type 0 where
    word : (c : Class) (g : Grammar L) → Head (byte c ⨾ g)
    choice : (g h : Grammar L) → Head (g ∣ h)
    other : (g : Grammar L) → Head g

  abbrev pub head : (g : Grammar L) → Head g
  head void = other void
  head empty = other empty
  head (byte c) = other (byte c)
  head (g ⨾ h) = letter g
    where
      letter : (g : Grammar L) → Head (g ⨾ h)
      letter void = other (void ⨾ h)
      letter empty = other (empty ⨾ h)
      letter (byte c) = word c h
      letter (f ⨾ g) = other ((f ⨾ g) ⨾ h)
      letter (f ∣ g) = other ((f ∣ g) ⨾ h)
      letter (star g) = other (star g ⨾ h)
      letter (part l g) = other (part l g ⨾ h)
      letter (rest c g) = other (rest c g ⨾ h)
      letter (nest o c l m g r n) = other (nest o c l m g r n ⨾ h)
  head (g ∣ h) = choice g h
  head (star g) = other (star g)
  head (part l g) = other (part l g)
  head (rest c g) = other (rest c g)
  head (nest o c l m g r n) = other (nest o c l m g r n)

  -- each text has a byte, and the first one shows of which grammar it is
  abbrev pub told? : Grammar L → Grammar L → Bool
  told? g h = not (nullable g) && (not (nullable h) && apart (firsts g) (firsts h))

  abbrev pub split? : (Grammar L → Grammar L → Bool) → {g h : Grammar L} → Head g → Head h → Bool
  split? f (word c g) (word d h) = disjoint c d 256 || f g h
  split? f (word c g) (choice h k) = f (byte c ⨾ g) h && f (byte c ⨾ g) k
  split? f (word c g) (other h) = told? (byte c ⨾ g) h
  split? f (choice g k) (word d h) = f g (byte d ⨾ h) && f k (byte d ⨾ h)
  split? f (choice g k) (choice h j) = f g (h ∣ j) && f k (h ∣ j)
  split? f (choice g k) (other h) = f g h && f k h
  split? f (other g) (word d h) = told? g (byte d ⨾ h)
  split? f (other g) (choice h k) = f g h && f g k
  split? f (other g) (other h) = told? g h

  -- the first n letters at most show it
  abbrev pub separate? : ℕ → Grammar L → Grammar L → Bool
  separate? zero g h = false
  separate? (suc n) g h = split? (separate? n) (head g) (head h)

  abbrev pub deterministic? : Grammar L → Bool
  deterministic? void = true
  deterministic? empty = true
  deterministic? (byte c) = true
  deterministic? (g ⨾ h) = deterministic? g && (deterministic? h && apart (follows g) (firsts h))
  deterministic? (g ∣ h) =
      deterministic? g && (deterministic? h && ((not (nullable g && nullable h) && apart (firsts g) (firsts h)) || separate? 1000 g h))
  deterministic? (star g) = deterministic? g && apart (follows g) (firsts g)
  deterministic? (part l g) = deterministic? g
  deterministic? (rest c g) = deterministic? g
  deterministic? (nest o c l m g r n) =
      deterministic? g
      && (deterministic? r
      && (apart (follows g) (o ∷ (c ∷ firsts g))
      && (apart (follows r) (o ∷ (c ∷ firsts g)) && (apart_one o (c ∷ firsts g) && apart_one c (firsts g)))))

-- ## What it shows

-- b is in a class of cs
abbrev In : List Class → ℕ → Type 0
In [] b = ⊥
In (c ∷ cs) b = T (c.has b) ⊎ In cs b

in_left : (cs ds : List Class) (b : ℕ) → In cs b → In (cs ++ ds) b
in_left [] ds b x = elim x [ ]
in_left (c ∷ cs) ds b (inl x) = inl x
in_left (c ∷ cs) ds b (inr x) = inr (in_left cs ds b x)

in_right : (cs ds : List Class) (b : ℕ) → In ds b → In (cs ++ ds) b
in_right [] ds b x = x
in_right (c ∷ cs) ds b x = inr (in_right cs ds b x)

in_kept : (t : Bool) (cs : List Class) (b : ℕ) → T t → In cs b → In (kept t cs) b
in_kept true cs b p x = x
in_kept false cs b p x = absurd p

not-both : (x y : Bool) → T (not (x && y)) → T x → T y → ⊥
not-both true y p q = T_not y p
not-both false y p q = absurd q

disjoint-shows : (c d : Class) (n b : ℕ) → T (disjoint c d n) → b < n → T (c.has b) → T (d.has b) → ⊥
disjoint-shows c d zero b p h x y = omega arith
disjoint-shows c d (suc n) b p h x y =
    go (eqb b n) refl (λ l. disjoint-shows c d n b (T-right (not (c.has n && d.has n)) (disjoint c d n) p) l x y)
  where
    go : (t : Bool) → eqb b n ≡ t → (b < n → ⊥) → ⊥
    go true e f =
        let k : b ≡ n = eqb-true b n e in
        not-both (c.has n) (d.has n) (T-left (not (c.has n && d.has n)) (disjoint c d n) p) (rw k at x) (rw k at y)
    go false e f = f (omega (arith, eqb-false b n e))

apart-bytes : (c d : Class) (b : ℕ) → T (disjoint c d 256) → T (c.has b) → T (d.has b) → ⊥
apart-bytes c d b p x y = disjoint-shows c d 256 b p (ltb→lt b 256 (c.below b x)) x y

apart_one-shows : (c : Class) (ds : List Class) (b : ℕ) → T (apart_one c ds) → T (c.has b) → In ds b → ⊥
apart_one-shows c [] b p x y = elim y [ ]
apart_one-shows c (d ∷ ds) b p x (inl y) = apart-bytes c d b (T-left (disjoint c d 256) (apart_one c ds) p) x y
apart_one-shows c (d ∷ ds) b p x (inr y) = apart_one-shows c ds b (T-right (disjoint c d 256) (apart_one c ds) p) x y

apart-shows : (cs ds : List Class) (b : ℕ) → T (apart cs ds) → In cs b → In ds b → ⊥
apart-shows [] ds b p x y = elim x [ ]
apart-shows (c ∷ cs) ds b p (inl x) y = apart_one-shows c ds b (T-left (apart_one c ds) (apart cs ds) p) x y
apart-shows (c ∷ cs) ds b p (inr x) y = apart-shows cs ds b (T-right (apart_one c ds) (apart cs ds) p) x y

module _ {L : Type 0} where
  null_nullable : (g : Grammar L) → Null g → T (nullable g)
  null_nullable void n = n
  null_nullable empty n = tt
  null_nullable (byte c) n = n
  null_nullable (g ⨾ h) n = T-both (nullable g) (nullable h) (null_nullable g n.0) (null_nullable h n.1)
  null_nullable (g ∣ h) n = T_or (nullable g) (nullable h) (⊎_elim (λ x. inl (null_nullable g x)) (λ x. inr (null_nullable h x)) n)
  null_nullable (star g) n = tt
  null_nullable (part l g) n = null_nullable g n
  null_nullable (rest c g) n = null_nullable g n
  null_nullable (nest o c l m g r k) n = n

  in_firsts : (g : Grammar L) (b : ℕ) → First g b → In (firsts g) b
  in_firsts void b x = x
  in_firsts empty b x = x
  in_firsts (byte c) b x = inl x
  in_firsts (g ⨾ h) b (inl x) = in_left (firsts g) (kept (nullable g) (firsts h)) b (in_firsts g b x)
  in_firsts (g ⨾ h) b (inr x) =
      in_right (firsts g) (kept (nullable g) (firsts h)) b (in_kept (nullable g) (firsts h) b (null_nullable g x.0) (in_firsts h b x.1))
  in_firsts (g ∣ h) b (inl x) = in_left (firsts g) (firsts h) b (in_firsts g b x)
  in_firsts (g ∣ h) b (inr x) = in_right (firsts g) (firsts h) b (in_firsts h b x)
  in_firsts (star g) b x = in_firsts g b x
  in_firsts (part l g) b x = in_firsts g b x
  in_firsts (rest c g) b x = in_firsts g b x
  in_firsts (nest o c l m g r n) b (inl x) = in_left (firsts r) (kept (nullable r) (o ∷ (c ∷ firsts g))) b (in_firsts r b x)
  in_firsts (nest o c l m g r n) b (inr x) =
      in_right (firsts r) (kept (nullable r) (o ∷ (c ∷ firsts g))) b
      (in_kept (nullable r) (o ∷ (c ∷ firsts g)) b (null_nullable r x.0) (⊎_elim inl (λ y. inr (⊎_elim inl (λ z. inr (in_firsts g b z)) y)) x.1))

  in_follows : (g : Grammar L) (b : ℕ) → Goes g b → In (follows g) b
  in_follows void b x = x
  in_follows empty b x = x
  in_follows (byte c) b x = x
  in_follows (g ⨾ h) b (inl x) = in_left (follows h) (kept (nullable h) (follows g)) b (in_follows h b x)
  in_follows (g ⨾ h) b (inr x) =
      in_right (follows h) (kept (nullable h) (follows g)) b (in_kept (nullable h) (follows g) b (null_nullable h x.0) (in_follows g b x.1))
  in_follows (g ∣ h) b (inl x) =
      in_left (follows g ++ follows h) (kept (nullable g) (firsts h) ++ kept (nullable h) (firsts g)) b
      (⊎_elim (λ y. in_left (follows g) (follows h) b (in_follows g b y)) (λ y. in_right (follows g) (follows h) b (in_follows h b y)) x)
  in_follows (g ∣ h) b (inr x) =
      in_right (follows g ++ follows h) (kept (nullable g) (firsts h) ++ kept (nullable h) (firsts g)) b
      (⊎_elim
      (λ y. in_left (kept (nullable g) (firsts h)) (kept (nullable h) (firsts g)) b (in_kept (nullable g) (firsts h) b (null_nullable g y.0) (in_firsts h b y.1)))
      (λ y. in_right (kept (nullable g) (firsts h)) (kept (nullable h) (firsts g)) b (in_kept (nullable h) (firsts g) b (null_nullable h y.0) (in_firsts g b y.1))) x)
  in_follows (star g) b (inl x) = in_left (firsts g) (follows g) b (in_firsts g b x)
  in_follows (star g) b (inr x) = in_right (firsts g) (follows g) b (in_follows g b x)
  in_follows (part l g) b x = in_follows g b x
  in_follows (rest c g) b x = in_follows g b x
  in_follows (nest o c l m g r n) b x = x

  -- ### Alternatives
  abbrev Ways : Grammar L → Grammar L → Type 0
  Ways g h = (i b : ℕ) → Parted (deriv g i b) (deriv h i b)

  swap : {g h : Grammar L} → Parted g h → Parted h g
  swap (left e) = right e
  swap (right e) = left e
  swap (on u v p q s) = on v u q p (λ i b. swap (s i b))

  parted_alt : {g k h : Grammar L} → Parted g h → Parted k h → Parted (alt g k) h
  parted_alt (left e) t = rw e t
  parted_alt (right e) t = right e
  parted_alt {g} (on u v p q s) (left e) = rw (e, alt-void g) (on u v p q s)
  parted_alt (on u v p q s) (right e) = right e
  parted_alt {g} {k} {h} (on u v p q s) (on w x m n t) =
      alt_elim (λ z. Parted z h) g k (on u v p q s) (on w x m n t)
      (on (T-both (fresh? g) (fresh? k) u w) v (⊎_elim p m) q (λ i b. parted_alt (s i b) (t i b)))

  -- each has no empty text, and they part
  abbrev Separate : Grammar L → Grammar L → Type 0
  Separate g h = (Null g → ⊥) × (Null h → ⊥) × Ways g h

  firsts_ways : (g h : Grammar L) → T (apart (firsts g) (firsts h)) → Ways g h
  firsts_ways g h p i b =
      ⊎_elim (λ e. left e)
      (λ x. ⊎_elim (λ e. right e) (λ y. absurd (apart-shows (firsts g) (firsts h) b p (in_firsts g b x) (in_firsts h b y))) (deriv-void i b h))
      (deriv-void i b g)

  told-shows : (g h : Grammar L) → T (told? g h) → Separate g h
  told-shows g h p =
      let q = T-right (not (nullable g)) (not (nullable h) && apart (firsts g) (firsts h)) p in (
        λ n. T_not (nullable g) (T-left (not (nullable g)) (not (nullable h) && apart (firsts g) (firsts h)) p) (null_nullable g n),
        λ n. T_not (nullable h) (T-left (not (nullable h)) (apart (firsts g) (firsts h)) q) (null_nullable h n),
        firsts_ways g h (T-right (not (nullable h)) (apart (firsts g) (firsts h)) q),
      )

  word_ways : (c d : Class) (g h : Grammar L) → T (disjoint c d 256) ⊎ Parted g h → Ways (byte c ⨾ g) (byte d ⨾ h)
  word_ways c d g h s i b = rw (byte_step c i b g, byte_step d i b h) (go (c.has b) (d.has b) (λ p x y. apart-bytes c d b p x y))
    where
      go : (x y : Bool) → (T (disjoint c d 256) → T x → T y → ⊥) → Parted (cond x g void) (cond y h void)
      go false y f = left refl
      go true false f = right refl
      go true true f = ⊎_elim (λ p. absurd (f p tt tt)) (λ p. p) s

  left-choice : (g k h : Grammar L) → Separate g h → Separate k h → Separate (g ∣ k) h
  left-choice g k h s t = (⊎_elim s.0 t.0, s.1, λ i b. parted_alt (s.2 i b) (t.2 i b))

  right-choice : (g h k : Grammar L) → Separate g h → Separate g k → Separate g (h ∣ k)
  right-choice g h k s t = (s.0, ⊎_elim s.1 t.1, λ i b. swap (parted_alt (swap (s.2 i b)) (swap (t.2 i b))))

  module _ (f : Grammar L → Grammar L → Bool) (shows : (g h : Grammar L) → T (fresh? g) → T (fresh? h) → T (f g h) → Separate g h) where
    split-shows : {g h : Grammar L} (x : Head g) (y : Head h) → T (fresh? g) → T (fresh? h) → T (split? f x y) → Separate g h
    split-shows (word c g) (word d h) u v p = (
      λ n. n.0,
      λ n. n.0,
      word_ways c d g h (⊎_elim inl (λ q. let s = shows g h u v q in inr (on u v s.0 s.1 s.2)) (T_case (disjoint c d 256) (f g h) p)),
    )
    split-shows (word c g) (choice h k) u v p =
        let w = byte c ⨾ g in
        right-choice w h k (shows w h u (T-left (fresh? h) (fresh? k) v) (T-left (f w h) (f w k) p)) (shows w k u (T-right (fresh? h) (fresh? k) v) (T-right (f w h) (f w k) p))
    split-shows (word c g) (other h) u v p = told-shows (byte c ⨾ g) h p
    split-shows (choice g k) (word d h) u v p =
        let w = byte d ⨾ h in
        left-choice g k w (shows g w (T-left (fresh? g) (fresh? k) u) v (T-left (f g w) (f k w) p)) (shows k w (T-right (fresh? g) (fresh? k) u) v (T-right (f g w) (f k w) p))
    split-shows (choice g k) (choice h j) u v p =
        let w = h ∣ j in
        left-choice g k w (shows g w (T-left (fresh? g) (fresh? k) u) v (T-left (f g w) (f k w) p)) (shows k w (T-right (fresh? g) (fresh? k) u) v (T-right (f g w) (f k w) p))
    split-shows (choice g k) (other h) u v p =
        left-choice g k h (shows g h (T-left (fresh? g) (fresh? k) u) v (T-left (f g h) (f k h) p)) (shows k h (T-right (fresh? g) (fresh? k) u) v (T-right (f g h) (f k h) p))
    split-shows (other g) (word d h) u v p = told-shows g (byte d ⨾ h) p
    split-shows (other g) (choice h k) u v p =
        right-choice g h k (shows g h u (T-left (fresh? h) (fresh? k) v) (T-left (f g h) (f g k) p)) (shows g k u (T-right (fresh? h) (fresh? k) v) (T-right (f g h) (f g k) p))
    split-shows (other g) (other h) u v p = told-shows g h p

  separate_shows : (n : ℕ) (g h : Grammar L) → T (fresh? g) → T (fresh? h) → T (separate? n g h) → Separate g h
  separate_shows zero g h u v p = absurd p
  separate_shows (suc n) g h u v p = split-shows (separate? n) (separate_shows n) (head g) (head h) u v p

  -- ### The grammar
  pub det_of : (g : Grammar L) → T (fresh? g) → T (deterministic? g) → Det g
  det_of void f p = tt
  det_of empty f p = tt
  det_of (byte c) f p = tt
  det_of (g ⨾ h) f p =
      let q = T-right (deterministic? g) (deterministic? h && apart (follows g) (firsts h)) p in (
        det_of g (T-left (fresh? g) (fresh? h) f) (T-left (deterministic? g) (deterministic? h && apart (follows g) (firsts h)) p),
        det_of h (T-right (fresh? g) (fresh? h) f) (T-left (deterministic? h) (apart (follows g) (firsts h)) q),
        λ b x y. apart-shows (follows g) (firsts h) b (T-right (deterministic? h) (apart (follows g) (firsts h)) q) (in_follows g b x) (in_firsts h b y),
      )
  det_of (g ∣ h) f p =
      (u, v, det_of g u (T-left (deterministic? g) (deterministic? h && (one || separate? 1000 g h)) p), det_of h v (T-left (deterministic? h) (one || separate? 1000 g h) q), w.0, w.1)
    where
      one : Bool
      one = not (nullable g && nullable h) && apart (firsts g) (firsts h)

      u : T (fresh? g)
      u = T-left (fresh? g) (fresh? h) f

      v : T (fresh? h)
      v = T-right (fresh? g) (fresh? h) f

      q : T (deterministic? h && (one || separate? 1000 g h))
      q = T-right (deterministic? g) (deterministic? h && (one || separate? 1000 g h)) p

      w : (Null g → Null h → ⊥) × Ways g h
      w =
          ⊎_elim
          (λ x. (
            λ m n. not-both (nullable g) (nullable h) (T-left (not (nullable g && nullable h)) (apart (firsts g) (firsts h)) x) (null_nullable g m) (null_nullable h n),
            firsts_ways g h (T-right (not (nullable g && nullable h)) (apart (firsts g) (firsts h)) x),
          ))
          (λ x. let s = separate_shows 1000 g h u v x in (λ m n. s.0 m, s.2))
          (T_case one (separate? 1000 g h) (T-right (deterministic? h) (one || separate? 1000 g h) q))
  det_of (star g) f p = (
    f,
    det_of g f (T-left (deterministic? g) (apart (follows g) (firsts g)) p),
    λ b x y. apart-shows (follows g) (firsts g) b (T-right (deterministic? g) (apart (follows g) (firsts g)) p) (in_follows g b x) (in_firsts g b y),
  )
  det_of (part l g) f p = (f, det_of g f p)
  det_of (rest c g) f p = absurd f
  det_of (nest o c l m g r n) f p = (
    T-left (fresh? g) (fresh? r) f,
    det_of g (T-left (fresh? g) (fresh? r) f) (T-left (deterministic? g) t1 p),
    det_of r (T-right (fresh? g) (fresh? r) f) (T-left (deterministic? r) t2 p1),
    λ b x y. apart-shows (follows g) turns b (T-left (apart (follows g) turns) t3 p2) (in_follows g b x) (in_turns b y),
    λ b x y. apart-shows (follows r) turns b (T-left (apart (follows r) turns) t4 p3) (in_follows r b x) (in_turns b y),
    λ b x y. apart_one-shows o (c ∷ firsts g) b (T-left (apart_one o (c ∷ firsts g)) (apart_one c (firsts g)) p4) x (inl y),
    λ b x y. apart_one-shows o (c ∷ firsts g) b (T-left (apart_one o (c ∷ firsts g)) (apart_one c (firsts g)) p4) x (inr (in_firsts g b y)),
    λ b x y. apart_one-shows c (firsts g) b (T-right (apart_one o (c ∷ firsts g)) (apart_one c (firsts g)) p4) x (in_firsts g b y),
  )
    where
      turns : List Class
      turns = o ∷ (c ∷ firsts g)

      in_turns : (b : ℕ) → T (o.has b) ⊎ (T (c.has b) ⊎ First g b) → In turns b
      in_turns b = ⊎_elim inl (λ y. inr (⊎_elim inl (λ z. inr (in_firsts g b z)) y))

      t4 : Bool
      t4 = apart_one o (c ∷ firsts g) && apart_one c (firsts g)

      t3 : Bool
      t3 = apart (follows r) turns && t4

      t2 : Bool
      t2 = apart (follows g) turns && t3

      t1 : Bool
      t1 = deterministic? r && t2

      p1 : T t1
      p1 = T-right (deterministic? g) t1 p

      p2 : T t2
      p2 = T-right (deterministic? r) t2 p1

      p3 : T t3
      p3 = T-right (apart (follows g) turns) t3 p2

      p4 : T t4
      p4 = T-right (apart (follows r) turns) t4 p3

  pub deterministic_steady : (g : Grammar L) → T (fresh? g) → T (deterministic? g) → Steady g
  deterministic_steady g f p = det_steady g (det_of g f p)
