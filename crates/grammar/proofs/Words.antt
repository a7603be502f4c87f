-- The law of a choice among words of one length: which of them stands in the text, or how many bytes of one do.
use Prim.Native.Nat.{ℕ, zero, suc, ◌+◌, ◌<◌}
use native.Mathlib.Omega.{arith}
use native.Mathlib.Numerals.{add-one}
use borrow.Author.Tests.{ltb-true, ltb-false, eqb-true}
use mathlib.Core.Path.{◌≡◌, refl, sym, ap, subst, ◌∙◌}
use mathlib.Core.Bool.{Bool, true, false, cond, ◌&&◌, not, true≢false}
use mathlib.Core.List.{List, [], ◌∷◌, ◌++◌}
use mathlib.Core.Option.{Option, none, some}
use lib.Dec.{T, ltb, eqb}
use lib.ListN.{length, get_or, drop, drop_of_length-le}
use lib.Seq.{drop-cons}
use Rattle.grammar.specs.Grammar.{Class, Part, Grammar, void, empty, byte, ◌⨾◌, ◌∣◌, star, part, rest, nest, just, lit}
use Rattle.grammar.specs.Grammar.{bytes?, T-left, T-right}
use Rattle.grammar.specs.helpers.Derivative.{live, nullable, deriv, ends, then, seq, alt}
use Rattle.grammar.specs.Reading.{Rules, refused}
use Rattle.grammar.specs.helpers.Judge.{held}
use Rattle.grammar.specs.helpers.Checks.{ahead}
use Rattle.grammar.specs.helpers.Scans.{from}
use Rattle.grammar.proofs.Forms.{then-all, seq-all, alt-all}
use Rattle.grammar.proofs.Shapes.{alt-void, byte_step}
use Rattle.grammar.proofs.Scans.{Follows, nothing, blank, solid, follows, dead-live, then-live, goes_on, stops_at, ends-early}
use Rattle.grammar.specs.helpers.Words.{begins, same_byte, common, larger}
use Rattle.grammar.proofs.Matching.{matching-none}

and-true : (a b : Bool) → b ≡ true → (a && b) ≡ a
and-true true b e = e
and-true false b e = refl

abbrev pub same : List ℕ → List ℕ → Bool
same [] [] = true
same [] (b ∷ v) = false
same (a ∷ w) [] = false
same (a ∷ w) (b ∷ v) = eqb a b && same w v

-- a word, and what follows it
pub record Word (L : Type 0) : Type 0 where
  pub text : List ℕ
  pub are : T (bytes? text)
  pub next : Grammar L

T_and : (a b : Bool) → T a → T b → T (a && b)
T_and true b p q = q
T_and false b p q = p

none-begins : (w : List ℕ) (n : ℕ) → length w ≡ suc n → begins w [] ≡ false
none-begins [] n e = absurd (omega arith)
none-begins (a ∷ w) n e = refl

module _ {L : Type 0} where
  abbrev pub choice : List (Word L) → Grammar L
  choice [] = void
  choice (w ∷ ws) = alt (lit w.text w.are w.next) (choice ws)

  -- the words that go on behind the byte b
  abbrev kept : ℕ → (w : List ℕ) → T (bytes? w) → Grammar L → List (Word L) → List (Word L)
  kept b [] p h ws = ws
  kept b (a ∷ w) p h ws = cond (eqb b a) (record { text = w; are = T-right (ltb a 256) (bytes? w) p; next = h } ∷ ws) ws

  abbrev step : ℕ → List (Word L) → List (Word L)
  step b [] = []
  step b (w ∷ ws) = kept b w.text w.are w.next (step b ws)

  abbrev pub find : List (Word L) → List ℕ → Option (Grammar L)
  find [] t = none
  find (w ∷ ws) t = cond (begins w.text t) (some w.next) (find ws t)

  abbrev pub nearest : List (Word L) → List ℕ → ℕ
  nearest [] t = 0
  nearest (w ∷ ws) t = larger (common w.text t) (nearest ws t)

  -- ## Words that differ, of one length, with texts behind them

  abbrev differs : List ℕ → List (Word L) → Bool
  differs w [] = true
  differs w (v ∷ ws) = not (same w v.text) && differs w ws

  abbrev pub proper : ℕ → List (Word L) → Type 0
  proper n [] = Unit {0}
  proper n (w ∷ ws) = (length w.text ≡ n) × (live w.next ≡ true) × (held w.next ≡ []) × T (differs w.text ws) × proper n ws

  differs-kept : (b a : ℕ) (w v : List ℕ) (p : T (bytes? v)) (h : Grammar L) (ws : List (Word L)) → eqb b a ≡ true
      → T (not (same (a ∷ w) v)) → T (differs w ws)
      → T (differs w (kept b v p h ws))
  differs-kept b a w [] p h ws e d q = q
  differs-kept b a w (x ∷ v) p h ws e d q = go (eqb b x) refl
    where
      go : (t : Bool) → eqb b x ≡ t
          → T (differs w (cond t (record { text = v; are = T-right (ltb x 256) (bytes? v) p; next = h } ∷ ws) ws))
      go true f =
          let alike : eqb a x ≡ true = subst (λ (k : ℕ). eqb k x ≡ true) (eqb-true b a e) f in
          T_and (not (same w v)) (differs w ws) (rw alike at d) q
      go false f = q

  differs-step : (b a : ℕ) (w : List ℕ) (ws : List (Word L)) → eqb b a ≡ true → T (differs (a ∷ w) ws) → T (differs w (step b ws))
  differs-step b a w [] e d = tt
  differs-step b a w (v ∷ ws) e d =
      differs-kept b a w v.text v.are v.next (step b ws) e (T-left (not (same (a ∷ w) v.text)) (differs (a ∷ w) ws) d)
      (differs-step b a w ws e (T-right (not (same (a ∷ w) v.text)) (differs (a ∷ w) ws) d))

  proper-kept : (n b : ℕ) (w : List ℕ) (p : T (bytes? w)) (h : Grammar L) (ws : List (Word L)) → length w ≡ suc n → live h ≡ true
      → held h ≡ []
      → T (differs w ws) → proper n (step b ws) → proper n (kept b w p h (step b ws))
  proper-kept n b [] p h ws l v k d q = q
  proper-kept n b (a ∷ w) p h ws l v k d q = go (eqb b a) refl
    where
      go : (t : Bool) → eqb b a ≡ t
          → proper n (cond t (record { text = w; are = T-right (ltb a 256) (bytes? w) p; next = h } ∷ step b ws) (step b ws))
      go true e = (omega arith, v, k, differs-step b a w ws e d, q)
      go false e = q

  proper-step : (n b : ℕ) (ws : List (Word L)) → proper (suc n) ws → proper n (step b ws)
  proper-step n b [] q = tt
  proper-step n b (w ∷ ws) q = proper-kept n b w.text w.are w.next ws q.0 q.1 q.2 q.3 (proper-step n b ws q.4)

  -- ## Derivatives

  alt-deriv : (i b : ℕ) (g h : Grammar L) → deriv (alt g h) i b ≡ alt (deriv g i b) (deriv h i b)
  alt-deriv i b =
      alt-all (λ g h k. deriv k i b ≡ alt (deriv g i b) (deriv h i b)) (λ h. refl) (λ g. sym (alt-void (deriv g i b))) (λ g h. refl)

  kept-choice : (b : ℕ) (w : List ℕ) (p : T (bytes? w)) (h : Grammar L) (ws : List (Word L)) (i n : ℕ) → length w ≡ suc n
      → alt (deriv (lit w p h) i b) (choice ws) ≡ choice (kept b w p h ws)
  kept-choice b [] p h ws i n e = absurd (omega arith)
  kept-choice b (a ∷ w) p h ws i n e =
      ap (λ (x : Grammar L). alt x (choice ws)) (byte_step (just a (T-left (ltb a 256) (bytes? w) p)) i b (lit w (T-right (ltb a 256) (bytes? w) p) h)) ∙ go (eqb b a)
    where
      go : (t : Bool) → alt (cond t (lit w (T-right (ltb a 256) (bytes? w) p) h) void) (choice ws)
          ≡ choice (cond t (record { text = w; are = T-right (ltb a 256) (bytes? w) p; next = h } ∷ ws) ws)
      go true = refl
      go false = refl

  choice-deriv : (n : ℕ) (ws : List (Word L)) (i b : ℕ) → proper (suc n) ws → deriv (choice ws) i b ≡ choice (step b ws)
  choice-deriv n [] i b q = refl
  choice-deriv n (w ∷ ws) i b q =
      alt-deriv i b (lit w.text w.are w.next) (choice ws)
      ∙ ap (alt (deriv (lit w.text w.are w.next) i b)) (choice-deriv n ws i b q.4)
      ∙ kept-choice b w.text w.are w.next (step b ws) i n q.0

  -- ## No word is empty

  alt_null : (g h : Grammar L) → nullable g ≡ false → nullable h ≡ false → nullable (alt g h) ≡ false
  alt_null =
      alt-all (λ g h k. nullable g ≡ false → nullable h ≡ false → nullable k ≡ false) (λ h e f. f) (λ g e f. e) (λ g h e f. rw (e, f))

  lit_null : (w : List ℕ) (p : T (bytes? w)) (h : Grammar L) (n : ℕ) → length w ≡ suc n → nullable (lit w p h) ≡ false
  lit_null [] p h n e = absurd (omega arith)
  lit_null (a ∷ w) p h n e = refl

  pub choice_null : (n : ℕ) (ws : List (Word L)) → proper (suc n) ws → nullable (choice ws) ≡ false
  choice_null n [] q = refl
  choice_null n (w ∷ ws) q =
      alt_null (lit w.text w.are w.next) (choice ws) (lit_null w.text w.are w.next n q.0) (choice_null n ws q.4)

  alt-ends : (i : ℕ) (g h : Grammar L) → ends g i ≡ void → ends h i ≡ void → ends (alt g h) i ≡ void
  alt-ends i =
      alt-all (λ g h k. ends g i ≡ void → ends h i ≡ void → ends k i ≡ void) (λ h e f. f) (λ g e f. e) (λ g h e f. rw (e, f))

  lit-ends : (w : List ℕ) (p : T (bytes? w)) (h : Grammar L) (i n : ℕ) → length w ≡ suc n → ends (lit w p h) i ≡ void
  lit-ends [] p h i n e = absurd (omega arith)
  lit-ends (a ∷ w) p h i n e = refl

  choice-ends : (n : ℕ) (ws : List (Word L)) (i : ℕ) → proper (suc n) ws → ends (choice ws) i ≡ void
  choice-ends n [] i q = refl
  choice-ends n (w ∷ ws) i q =
      alt-ends i (lit w.text w.are w.next) (choice ws) (lit-ends w.text w.are w.next i n q.0) (choice-ends n ws i q.4)

  pub lit-live : (w : List ℕ) (p : T (bytes? w)) (h : Grammar L) → live (lit w p h) ≡ live h
  lit-live [] p h = refl
  lit-live (a ∷ w) p h = lit-live w (T-right (ltb a 256) (bytes? w) p) h

  alt-live : (x y : Grammar L) → live x ≡ true → live (alt x y) ≡ true
  alt-live =
      alt-all (λ x y k. live x ≡ true → live k ≡ true) (λ y l. absurd (true≢false (sym l))) (λ x l. l) (λ x y l. rw l)

  pub choice-live : (n : ℕ) (w : Word L) (ws : List (Word L)) → proper n (w ∷ ws) → live (choice (w ∷ ws)) ≡ true
  choice-live n w ws q = alt-live (lit w.text w.are w.next) (choice ws) (lit-live w.text w.are w.next ∙ q.1)

  -- ## What the words find

  begins-kept : (b : ℕ) (t w : List ℕ) (p : T (bytes? w)) (h : Grammar L) (ws : List (Word L)) (n : ℕ) → length w ≡ suc n
      → cond (begins w (b ∷ t)) (some h) (find ws t) ≡ find (kept b w p h ws) t
  begins-kept b t [] p h ws n e = absurd (omega arith)
  begins-kept b t (a ∷ w) p h ws n e = go (eqb b a)
    where
      go : (x : Bool) → cond (x && begins w t) (some h) (find ws t) ≡ find (cond x (record { text = w; are = T-right (ltb a 256) (bytes? w) p; next = h } ∷ ws) ws) t
      go true = refl
      go false = refl

  find-step : (n b : ℕ) (t : List ℕ) (ws : List (Word L)) → proper (suc n) ws → find ws (b ∷ t) ≡ find (step b ws) t
  find-step n b t [] q = refl
  find-step n b t (w ∷ ws) q =
      ap (cond (begins w.text (b ∷ t)) (some w.next)) (find-step n b t ws q.4)
      ∙ begins-kept b t w.text w.are w.next (step b ws) n q.0

  find-end : (n : ℕ) (ws : List (Word L)) → proper (suc n) ws → find ws [] ≡ none
  find-end n [] q = refl
  find-end n (w ∷ ws) q = rw (none-begins w.text n q.0) (find-end n ws q.4)

  nearest-end : (ws : List (Word L)) → nearest ws [] ≡ 0
  nearest-end [] = refl
  nearest-end (w ∷ ws) = rw (matching-none same_byte w.text) (nearest-end ws)

  -- behind a byte that no word goes on with, nothing is common; otherwise one byte more is
  abbrev one_more : List (Word L) → ℕ → ℕ
  one_more [] n = 0
  one_more (w ∷ ws) n = suc n

  larger-kept : (b : ℕ) (t w : List ℕ) (p : T (bytes? w)) (h : Grammar L) (vs : List (Word L)) (n : ℕ) → length w ≡ suc n
      → larger (common w (b ∷ t)) (one_more vs (nearest vs t)) ≡ one_more (kept b w p h vs) (nearest (kept b w p h vs) t)
  larger-kept b t [] p h vs n e = absurd (omega arith)
  larger-kept b t (a ∷ w) p h vs n e = go (eqb b a) vs
    where
      word : Word L
      word = record { text = w; are = T-right (ltb a 256) (bytes? w) p; next = h }

      none-larger : (m : ℕ) → m ≡ larger m 0
      none-larger zero = refl
      none-larger (suc m) = refl

      go : (x : Bool) (vs : List (Word L)) → larger (cond x (suc (common w t)) 0) (one_more vs (nearest vs t))
          ≡ one_more (cond x (word ∷ vs) vs) (nearest (cond x (word ∷ vs) vs) t)
      go true [] = ap suc (none-larger (common w t))
      go true (v ∷ vs) = refl
      go false vs = refl

  nearest-step : (n b : ℕ) (t : List ℕ) (ws : List (Word L)) → proper (suc n) ws
      → nearest ws (b ∷ t) ≡ one_more (step b ws) (nearest (step b ws) t)
  nearest-step n b t [] q = refl
  nearest-step n b t (w ∷ ws) q =
      ap (larger (common w.text (b ∷ t))) (nearest-step n b t ws q.4)
      ∙ larger-kept b t w.text w.are w.next (step b ws) n q.0

  -- ## What stands behind the choice

  pub record Tail (K : Grammar L → Grammar L) : Type 0 where
    pub dead : K void ≡ void
    pub lives : (x : Grammar L) → live x ≡ true → live (K x) ≡ true
    pub shut : (n : ℕ) (ws : List (Word L)) → proper (suc n) ws → nullable (K (choice ws)) ≡ false
    pub through : (n : ℕ) (ws : List (Word L)) (i b : ℕ) → proper (suc n) ws → deriv (K (choice ws)) i b ≡ K (deriv (choice ws) i b)

  -- nothing
  pub no_tail : Tail (λ x. x)
  no_tail = record { dead = refl; lives = λ x l. l; shut = choice_null; through = λ n ws i b q. refl }

-- a grammar that is neither void nor empty
module _ {L : Type 0} (g : Grammar L) (l : live g ≡ true) (firm : (x : Grammar L) → then x g ≡ x ⨾ g) where
  seq-live : (x : Grammar L) → live x ≡ true → live (seq x g) ≡ true
  seq-live x e = go x g l e
    where
      left : (a b : Bool) → a && b ≡ true → a ≡ true
      left true b e = refl
      left false b e = e

      right : (a b : Bool) → a && b ≡ true → b ≡ true
      right true b e = e
      right false b e = absurd (true≢false (sym e))

      go : (x h : Grammar L) → live h ≡ true → live x ≡ true → live (seq x h) ≡ true
      go void h k e = absurd (true≢false (sym e))
      go empty h k e = k
      go (byte c) h k e = then-live (byte c) h k
      go (f ⨾ x) h k e = go f (seq x h) (go x h k (right (live f) (live x) e)) (left (live f) (live x) e)
      go (f ∣ x) h k e = then-live (f ∣ x) h k ∙ e
      go (star x) h k e = then-live (star x) h k
      go (part m x) h k e = then-live (part m x) h k ∙ e
      go (rest c x) h k e = then-live (rest c x) h k ∙ e
      go (nest o c m n x r j) h k e = then-live (nest o c m n x r j) h k ∙ e

  seq_null : (x h : Grammar L) → nullable (seq x h) ≡ nullable x && nullable h
  seq_null =
      seq-all (λ x h k. nullable k ≡ nullable x && nullable h) (λ h. refl) (λ h. refl)
      (then-all (λ x h k. nullable k ≡ nullable x && nullable h) (λ x. and_no (nullable x)) (λ x. sym (and-true (nullable x) true refl)) (λ x h. refl))
      (λ f x h y z. y ∙ ap (λ (b : Bool). nullable f && b) z ∙ and_assoc (nullable f) (nullable x) (nullable h))
    where
      and_no : (a : Bool) → false ≡ a && false
      and_no true = refl
      and_no false = refl

      and_assoc : (a b c : Bool) → (a && (b && c)) ≡ ((a && b) && c)
      and_assoc true b c = refl
      and_assoc false b c = refl

  then-byte : (c : Class) (h : Grammar L) (i b : ℕ) → live h ≡ true → deriv (then (byte c) h) i b ≡ cond (c.has b) h void
  then-byte c h i b k = go (follows h)
    where
      go : Follows h → deriv (then (byte c) h) i b ≡ cond (c.has b) h void
      go (nothing e) = dead-live h e k
      go (blank e) = rw e
      go (solid f) = rw (f (byte c)) (byte_step c i b h)

  then-deriv : (x : Grammar L) (i b : ℕ) → ends x i ≡ void → deriv (then x g) i b ≡ seq (deriv x i b) g
  then-deriv x i b e = rw (firm x, e) (alt-void (seq (deriv x i b) g))

  -- the two shapes of a choice
  module _ (c : Class) (y : Grammar L) where
    two-deriv : (z : Grammar L) (i b : ℕ) → live y ≡ true → ends (alt (byte c ⨾ y) z) i ≡ void
        → deriv (seq (alt (byte c ⨾ y) z) g) i b ≡ seq (deriv (alt (byte c ⨾ y) z) i b) g
    two-deriv void i b k e =
        then-byte c (seq y g) i b (seq-live y k) ∙ go (c.has b) ∙ ap (λ (x : Grammar L). seq x g) (sym (byte_step c i b y))
      where
        go : (t : Bool) → cond t (seq y g) void ≡ seq (cond t y void) g
        go true = refl
        go false = refl
    two-deriv empty i b k e = then-deriv ((byte c ⨾ y) ∣ empty) i b e
    two-deriv (byte d) i b k e = then-deriv ((byte c ⨾ y) ∣ byte d) i b e
    two-deriv (f ⨾ h) i b k e = then-deriv ((byte c ⨾ y) ∣ (f ⨾ h)) i b e
    two-deriv (f ∣ h) i b k e = then-deriv ((byte c ⨾ y) ∣ (f ∣ h)) i b e
    two-deriv (star h) i b k e = then-deriv ((byte c ⨾ y) ∣ star h) i b e
    two-deriv (part m h) i b k e = then-deriv ((byte c ⨾ y) ∣ part m h) i b e
    two-deriv (rest d h) i b k e = then-deriv ((byte c ⨾ y) ∣ rest d h) i b e
    two-deriv (nest o d m n h r j) i b k e = then-deriv ((byte c ⨾ y) ∣ nest o d m n h r j) i b e

  shut-all : (n : ℕ) (ws : List (Word L)) → proper (suc n) ws → nullable (seq (choice ws) g) ≡ false
  shut-all n ws q = rw (seq_null (choice ws) g, choice_null n ws q)

  through-one : (w : List ℕ) (p : T (bytes? w)) (h z : Grammar L) (n i b : ℕ) → length w ≡ suc n → live h ≡ true
      → ends (alt (lit w p h) z) i ≡ void
      → deriv (seq (alt (lit w p h) z) g) i b ≡ seq (deriv (alt (lit w p h) z) i b) g
  through-one [] p h z n i b e k d = absurd (omega arith)
  through-one (a ∷ w) p h z n i b e k d =
      two-deriv (just a (T-left (ltb a 256) (bytes? w) p)) (lit w (T-right (ltb a 256) (bytes? w) p) h) z i b (lit-live w (T-right (ltb a 256) (bytes? w) p) h ∙ k) d

  through-all : (n : ℕ) (ws : List (Word L)) (i b : ℕ) → proper (suc n) ws → deriv (seq (choice ws) g) i b ≡ seq (deriv (choice ws) i b) g
  through-all n [] i b q = refl
  through-all n (w ∷ ws) i b q = through-one w.text w.are w.next (choice ws) n i b q.0 q.1 (choice-ends n (w ∷ ws) i q)

  pub seq_tail : Tail (λ x. seq x g)
  seq_tail = record { dead = refl; lives = seq-live; shut = shut-all; through = through-all }

abbrev any : {L : Type 0} → List (Word L) → Bool
any [] = false
any (w ∷ ws) = true

-- ## The law

module _ {L A : Type 0} (r : Rules L A) (s : List ℕ) (quiet : (n : ℕ) (ps : List (Part L)) → r.limit n ps ≡ none) (cs : List (Part L))
    (K : Grammar L → Grammar L) (tail : Tail K) where
  onward : (n : ℕ) (ws : List (Word L)) (i : ℕ) (w : Word L) (vs : List (Word L)) → proper (suc n) ws → i < length s
      → step (get_or s i 0) ws ≡ w ∷ vs
      → from r s (ahead cs (K (choice ws))) i ≡ from r s (ahead cs (K (choice (step (get_or s i 0) ws)))) (i + 1)
  onward n ws i w vs q at e =
      goes_on r s cs (K (choice ws)) i (K (choice (step (get_or s i 0) ws))) at
      (tail.through n ws i (get_or s i 0) q ∙ ap K (choice-deriv n ws i (get_or s i 0) q))
      (tail.lives (choice (step (get_or s i 0) ws)) (ap (λ (us : List (Word L)). live (choice us)) e ∙ choice-live n w vs (subst (proper n) e (proper-step n (get_or s i 0) ws q))))
      (quiet i (cs ++ held (K (choice (step (get_or s i 0) ws)))))

  here : (i : ℕ) → i < length s → drop i s ≡ get_or s i 0 ∷ drop (i + 1) s
  here i at = drop-cons s i 0 at ∙ ap (λ (n : ℕ). get_or s i 0 ∷ drop n s) (sym (add-one i))

  one_left : (w v : Word L) (ws : List (Word L)) → length w.text ≡ 0 → length v.text ≡ 0 → T (differs w.text (v ∷ ws)) → ⊥
  one_left w v ws a b d = both-empty w.text v.text a b (T-left (not (same w.text v.text)) (differs w.text ws) d)
    where
      both-empty : (x y : List ℕ) → length x ≡ 0 → length y ≡ 0 → T (not (same x y)) → ⊥
      both-empty [] [] a b d = d
      both-empty [] (c ∷ y) a b d = omega arith
      both-empty (c ∷ x) y a b d = omega arith

  empty-word : (w : Word L) → length w.text ≡ 0 → (t : List ℕ) → (choice (w ∷ []) ≡ w.next) × (begins w.text t ≡ true)
  empty-word w e t = go w.text w.are e
    where
      go : (x : List ℕ) (p : T (bytes? x)) → length x ≡ 0 → (alt (lit x p w.next) void ≡ w.next) × (begins x t ≡ true)
      go [] p e = (alt-void w.next, refl)
      go (a ∷ x) p e = absurd (omega arith)

  pub word-found : (n : ℕ) (ws : List (Word L)) → proper n ws → (i : ℕ) (h : Grammar L) → find ws (drop i s) ≡ some h
      → from r s (ahead cs (K (choice ws))) i ≡ from r s (ahead cs (K h)) (i + n)
  word-found zero [] q i h e = absurd (nothing-found e)
    where
      nothing-found : ◌≡◌ {A = Option (Grammar L)} none (some h) → ⊥
      nothing-found e = let z : ◌≡◌ {A = ℕ} 0 1 = cc in omega arith
  word-found zero (w ∷ []) q i h e =
      let k = empty-word w q.0 (drop i s) in
      let f : w.next ≡ h = some_is (rw k.1 at e) in
      let z : i ≡ i + 0 = omega arith in
      ap (λ (x : Grammar L). from r s (ahead cs (K x)) i) (k.0 ∙ f) ∙ ap (from r s (ahead cs (K h))) z
    where
      some_is : some w.next ≡ some h → w.next ≡ h
      some_is e = cc
  word-found zero (w ∷ v ∷ ws) q i h e = absurd (one_left w v ws q.0 q.4.0 q.3)
  word-found (suc n) ws q i h e =
      go (ltb i (length s)) refl (word-found n (step (get_or s i 0) ws) (proper-step n (get_or s i 0) ws q) (i + 1) h)
    where
      go : (x : Bool) → ltb i (length s) ≡ x
          → (find (step (get_or s i 0) ws) (drop (i + 1) s) ≡ some h → from r s (ahead cs (K (choice (step (get_or s i 0) ws)))) (i + 1) ≡ from r s (ahead cs (K h)) (i + 1 + n))
          → from r s (ahead cs (K (choice ws))) i ≡ from r s (ahead cs (K h)) (i + suc n)
      go true l later =
          let at = ltb-true i (length s) l in
          let f = sym (find-step n (get_or s i 0) (drop (i + 1) s) ws q) ∙ (rw (here i at) at e) in
          let z : i + 1 + n ≡ i + suc n = omega arith in
          some_left (step (get_or s i 0) ws) refl f (later f ∙ ap (from r s (ahead cs (K h))) z)
        where
          some_left : (vs : List (Word L)) → step (get_or s i 0) ws ≡ vs → find vs (drop (i + 1) s) ≡ some h
              → from r s (ahead cs (K (choice vs))) (i + 1) ≡ from r s (ahead cs (K h)) (i + suc n)
              → from r s (ahead cs (K (choice ws))) i ≡ from r s (ahead cs (K h)) (i + suc n)
          some_left [] d f on = absurd (none-some f)
            where
              none-some : ◌≡◌ {A = Option (Grammar L)} none (some h) → ⊥
              none-some e = let z : ◌≡◌ {A = ℕ} 0 1 = cc in omega arith
          some_left (v ∷ vs) d f on = onward n ws i v vs q (ltb-true i (length s) l) d ∙ ap (λ (us : List (Word L)). from r s (ahead cs (K (choice us))) (i + 1)) d ∙ on
      go false l later = absurd (gone (sym (find-end n ws q) ∙ (rw (drop_of_length-le s (ltb-false i (length s) l)) at e)))
        where
          gone : ◌≡◌ {A = Option (Grammar L)} none (some h) → ⊥
          gone e = let z : ◌≡◌ {A = ℕ} 0 1 = cc in omega arith

  pub word_missed : (n : ℕ) (w : Word L) (ws : List (Word L)) → proper n (w ∷ ws) → (i : ℕ) → find (w ∷ ws) (drop i s) ≡ none
      → from r s (ahead cs (K (choice (w ∷ ws)))) i ≡ refused 1 (i + nearest (w ∷ ws) (drop i s))
  word_missed zero w ws q i e = absurd (found (rw (empty-word w q.0 (drop i s)).1 at e))
    where
      found : some w.next ≡ none → ⊥
      found e = let z : ◌≡◌ {A = ℕ} 0 1 = cc in omega arith
  word_missed (suc n) w ws q i e = go (ltb i (length s)) refl (λ v vs p. word_missed n v vs p (i + 1))
    where
      still : i ≡ i + 0
      still = omega arith

      go : (x : Bool) → ltb i (length s) ≡ x
          → ((v : Word L) (vs : List (Word L)) → proper n (v ∷ vs) → find (v ∷ vs) (drop (i + 1) s) ≡ none
          → from r s (ahead cs (K (choice (v ∷ vs)))) (i + 1) ≡ refused 1 (i + 1 + nearest (v ∷ vs) (drop (i + 1) s)))
          → from r s (ahead cs (K (choice (w ∷ ws)))) i ≡ refused 1 (i + nearest (w ∷ ws) (drop i s))
      go false l later =
          let end = ltb-false i (length s) l in
          ends-early r s cs (K (choice (w ∷ ws))) i end (tail.shut n (w ∷ ws) q)
          ∙ ap (refused 1) (still ∙ ap (λ (k : ℕ). i + k) (sym (ap (nearest (w ∷ ws)) (drop_of_length-le s end) ∙ nearest-end (w ∷ ws))))
      go true l later = left (step (get_or s i 0) (w ∷ ws)) refl
        where
          at : i < length s
          at = ltb-true i (length s) l

          near : nearest (w ∷ ws) (drop i s) ≡ one_more (step (get_or s i 0) (w ∷ ws)) (nearest (step (get_or s i 0) (w ∷ ws)) (drop (i + 1) s))
          near = ap (nearest (w ∷ ws)) (here i at) ∙ nearest-step n (get_or s i 0) (drop (i + 1) s) (w ∷ ws) q

          missed : find (step (get_or s i 0) (w ∷ ws)) (drop (i + 1) s) ≡ none
          missed = sym (find-step n (get_or s i 0) (drop (i + 1) s) (w ∷ ws) q) ∙ (rw (here i at) at e)

          left : (vs : List (Word L)) → step (get_or s i 0) (w ∷ ws) ≡ vs
              → from r s (ahead cs (K (choice (w ∷ ws)))) i ≡ refused 1 (i + nearest (w ∷ ws) (drop i s))
          left [] d =
              stops_at r s cs (K (choice (w ∷ ws))) i at
              (tail.through n (w ∷ ws) i (get_or s i 0) q ∙ ap K (choice-deriv n (w ∷ ws) i (get_or s i 0) q ∙ ap choice d) ∙ tail.dead)
              ∙ ap (refused 1) (still ∙ ap (λ (k : ℕ). i + k) (sym (near ∙ ap (λ (us : List (Word L)). one_more us (nearest us (drop (i + 1) s))) d)))
          left (v ∷ vs) d =
              let m : nearest (w ∷ ws) (drop i s) ≡ suc (nearest (v ∷ vs) (drop (i + 1) s)) = near ∙ ap (λ (us : List (Word L)). one_more us (nearest us (drop (i + 1) s))) d in
              let z : i + 1 + nearest (v ∷ vs) (drop (i + 1) s) ≡ i + nearest (w ∷ ws) (drop i s) = omega arith in
              onward n (w ∷ ws) i v vs q at d
              ∙ ap (λ (us : List (Word L)). from r s (ahead cs (K (choice us))) (i + 1)) d
              ∙ later v vs (subst (proper n) d (proper-step n (get_or s i 0) (w ∷ ws) q)) (ap (λ (us : List (Word L)). find us (drop (i + 1) s)) (sym d) ∙ missed)
              ∙ ap (refused 1) z

  pub none_found : (n : ℕ) (ws : List (Word L)) → proper n ws → T (any ws) → (i : ℕ) → find ws (drop i s) ≡ none
      → from r s (ahead cs (K (choice ws))) i ≡ refused 1 (i + nearest ws (drop i s))
  none_found n [] q t i e = absurd t
  none_found n (w ∷ ws) q t i e = word_missed n w ws q i e
