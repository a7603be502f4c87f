-- The bridge for a reader that is written as scans: what the judgement of a text comes to behind a byte, a run of bytes, a part.
-- `ahead cs g` is g behind the parts cs.
use Prim.Native.Nat.{ℕ, zero, suc, ◌+◌, ◌-◌, ◌≤◌, ◌<◌}
use native.Mathlib.Omega.{arith}
use mathlib.Core.Path.{◌≡◌, refl, sym, ap, subst, ◌∙◌}
use mathlib.Core.Bool.{Bool, true, false, cond, ◌&&◌, true≢false}
use mathlib.Core.List.{List, [], ◌∷◌, ◌++◌, append-nil}
use mathlib.Core.Option.{none, some}
use lib.Dec.{ltb}
use lib.ListN.{length, get_or, drop, take, drop_of_length-le, length-drop}
use lib.Seq.{drop-cons, take-suc, get_or-drop}
use borrow.Author.Tests.{ltb-true, ltb-false}
use Rattle.grammar.specs.Grammar.{Class, Part, Grammar, void, empty, byte, ◌⨾◌, ◌∣◌, star, part, rest, nest, plus, grown}
use Rattle.grammar.specs.helpers.Derivative.{live, nullable, deriv, ends, then, seq, alt, during}
use Rattle.grammar.specs.Reading.{Limit, limit_number, Rules, refused}
use Rattle.grammar.specs.helpers.Judge.{held, finished}
use Rattle.grammar.specs.helpers.Checks.{ahead}
use Rattle.grammar.specs.helpers.Scans.{slice, from}
use Rattle.grammar.proofs.Forms.{during-all}
use Rattle.grammar.proofs.Ahead.{ahead-deriv, ahead-ends, ahead-one, ahead-live, ahead-nullable, ahead-held}
use Rattle.grammar.proofs.Shapes.{alt-void, seq-void, byte_step}
use Rattle.grammar.proofs.Loop.{judge-end, judge-dead, judge-next, judge-broken}

and-true : (a b : Bool) → b ≡ true → (a && b) ≡ a
and-true true b e = e
and-true false b e = refl

module _ {L : Type 0} where
  -- ## What `then`, `seq` and `during` come to

  during-live : (p : Part L) (g : Grammar L) → live g ≡ true → during p g ≡ rest p g
  during-live p = during-all (λ g k. live g ≡ true → k ≡ rest p g) (λ l. absurd (true≢false (sym l))) p (λ g l. refl)

  pub during_alone : (p : Part L) (g : Grammar L) → seq (during p g) empty ≡ during p g
  during_alone p = during-all (λ g k. seq k empty ≡ k) refl p (λ g. refl)

  -- `then x g` is `x ⨾ g` but where g is void or empty
  pub data Follows (g : Grammar L) : Type 0 where
    nothing : g ≡ void → Follows g
    blank : g ≡ empty → Follows g
    solid : ((x : Grammar L) → then x g ≡ x ⨾ g) → Follows g

  pub follows : (g : Grammar L) → Follows g
  follows void = nothing refl
  follows empty = blank refl
  follows (byte c) = solid (λ x. refl)
  follows (f ⨾ g) = solid (λ x. refl)
  follows (f ∣ g) = solid (λ x. refl)
  follows (star g) = solid (λ x. refl)
  follows (part k g) = solid (λ x. refl)
  follows (rest c g) = solid (λ x. refl)
  follows (nest o c k m g r n) = solid (λ x. refl)

  pub dead-live : {A : Type 0} (g : Grammar L) → g ≡ void → live g ≡ true → A
  dead-live g e l = absurd (true≢false (sym l ∙ ap live e))

  pub then-live : (x g : Grammar L) → live g ≡ true → live (then x g) ≡ live x
  then-live x g l = go (follows g)
    where
      go : Follows g → live (then x g) ≡ live x
      go (nothing e) = dead-live g e l
      go (blank e) = rw e
      go (solid f) = rw (f x) (and-true (live x) (live g) l)

  pub then-held : (x g : Grammar L) → live g ≡ true → held g ≡ [] → held (then x g) ≡ held x
  then-held x g l h = go (follows g)
    where
      go : Follows g → held (then x g) ≡ held x
      go (nothing e) = dead-live g e l
      go (blank e) = rw e
      go (solid f) = rw (f x, h) (append-nil (held x))

  -- ## One byte

  module _ (c : Class) (g : Grammar L) (l : live g ≡ true) (i b : ℕ) where
    pub then-byte : deriv (then (byte c) g) i b ≡ cond (c.has b) g void
    then-byte = go (follows g)
      where
        go : Follows g → deriv (then (byte c) g) i b ≡ cond (c.has b) g void
        go (nothing e) = dead-live g e l
        go (blank e) = rw e
        go (solid f) = rw (f (byte c)) (byte_step c i b g)

    then-byte-ends : ends (then (byte c) g) i ≡ void
    then-byte-ends = go (follows g)
      where
        go : Follows g → ends (then (byte c) g) i ≡ void
        go (nothing e) = dead-live g e l
        go (blank e) = rw e
        go (solid f) = rw (f (byte c))

    then-byte-nullable : nullable (then (byte c) g) ≡ false
    then-byte-nullable = go (follows g)
      where
        go : Follows g → nullable (then (byte c) g) ≡ false
        go (nothing e) = dead-live g e l
        go (blank e) = rw e
        go (solid f) = rw (f (byte c))

  -- ## A part that has begun, with x left of it

  module _ (p : Part L) (x g : Grammar L) (l : live g ≡ true) (i b : ℕ) where
    then-rest : deriv (then (rest p x) g) i b ≡ alt (seq (during (grown p (b ∷ [])) (deriv x i b)) g) (seq (during p (ends x i)) (deriv g i b))
    then-rest = go (follows g)
      where
        one : Grammar L
        one = during (grown p (b ∷ [])) (deriv x i b)

        go : Follows g → deriv (then (rest p x) g) i b ≡ alt (seq (during (grown p (b ∷ [])) (deriv x i b)) g) (seq (during p (ends x i)) (deriv g i b))
        go (nothing e) = dead-live g e l
        go (blank e) = rw (e, seq-void (during p (ends x i)), during_alone (grown p (b ∷ [])) (deriv x i b), alt-void (during (grown p (b ∷ [])) (deriv x i b)))
        go (solid f) = rw (f (rest p x))

    -- the byte is one of the part's
    rest_in : (y : Grammar L) → deriv x i b ≡ y → live y ≡ true → seq (during p (ends x i)) (deriv g i b) ≡ void
        → deriv (then (rest p x) g) i b ≡ then (rest (grown p (b ∷ [])) y) g
    rest_in y e k o = then-rest ∙ rw (e, o, during-live (grown p (b ∷ [])) y k) (alt-void (then (rest (grown p (b ∷ [])) y) g))

    -- the part has ended before the byte
    rest_out : deriv x i b ≡ void → ends x i ≡ empty → deriv (then (rest p x) g) i b ≡ deriv (then (rest p empty) g) i b
    rest_out d e = then-rest ∙ rw (d, e) (sym ended)
      where
        ended : deriv (then (rest p empty) g) i b ≡ then (rest p empty) (deriv g i b)
        ended = then-rest-empty (follows g)
          where
            then-rest-empty : Follows g → deriv (then (rest p empty) g) i b ≡ then (rest p empty) (deriv g i b)
            then-rest-empty (nothing e) = dead-live g e l
            then-rest-empty (blank e) = rw e
            then-rest-empty (solid f) = rw (f (rest p empty))

    rest-neither : deriv x i b ≡ void → ends x i ≡ void → deriv (then (rest p x) g) i b ≡ void
    rest-neither d e = then-rest ∙ rw (d, e)

  module _ (p : Part L) (x g : Grammar L) (l : live g ≡ true) (i : ℕ) where
    rest-nullable : nullable (then (rest p x) g) ≡ nullable x && nullable g
    rest-nullable = go (follows g)
      where
        and_one : (a : Bool) → a ≡ (a && true)
        and_one true = refl
        and_one false = refl

        go : Follows g → nullable (then (rest p x) g) ≡ nullable x && nullable g
        go (nothing e) = dead-live g e l
        go (blank e) = rw e (and_one (nullable x))
        go (solid f) = rw (f (rest p x))

    rest_end : ends (then (rest p x) g) i ≡ seq (during p (ends x i)) (ends g i)
    rest_end = go (follows g)
      where
        go : Follows g → ends (then (rest p x) g) i ≡ seq (during p (ends x i)) (ends g i)
        go (nothing e) = dead-live g e l
        go (blank e) = rw e (sym (during_alone p (ends x i)))
        go (solid f) = rw (f (rest p x))

-- ## Bytes of a text

-- from i up to e the bytes of s pass the test, and no further
pub record Run (p : ℕ → Bool) (s : List ℕ) (i e : ℕ) : Type 0 where
  pub ordered : i ≤ e
  pub within : e ≤ length s
  pub inside : (k : ℕ) → i ≤ k → k < e → p (get_or s k 0) ≡ true
  pub stops : e < length s → p (get_or s e 0) ≡ false

pub slice-none : (s : List ℕ) (i : ℕ) → slice s i i ≡ []
slice-none s i = ap (λ (n : ℕ). take n (drop i s)) zero_left
  where
    zero_left : i - i ≡ 0
    zero_left = omega arith

pub slice_snoc : (s : List ℕ) (i k : ℕ) → i ≤ k → k < length s → slice s i (k + 1) ≡ slice s i k ++ (get_or s k 0 ∷ [])
slice_snoc s i k h l =
    let e : (k + 1) - i ≡ suc (k - i) = omega arith in
    let f : i + (k - i) ≡ k = omega arith in
    ap (λ (n : ℕ). take n (drop i s)) e
    ∙ take-suc (drop i s) (k - i) 0 (omega (arith, length-drop i s))
    ∙ ap (λ (b : ℕ). slice s i k ++ (b ∷ [])) (get_or-drop i s (k - i) 0 ∙ ap (λ (n : ℕ). get_or s n 0) f)

module _ {L A : Type 0} (r : Rules L A) (s : List ℕ) where
  -- two grammars that a byte, or the end, leaves alike are judged alike
  same_byte : (g h : Grammar L) (i : ℕ) → i < length s → deriv g i (get_or s i 0) ≡ deriv h i (get_or s i 0) → from r s g i ≡ from r s h i
  same_byte g h i at e = rw (drop-cons s i 0 at, e)

  same_end : (g h : Grammar L) (i : ℕ) → length s ≤ i → nullable g ≡ nullable h → ends g i ≡ ends h i → from r s g i ≡ from r s h i
  same_end g h i at n e = rw (drop_of_length-le s at, n, e)

  -- the same where a byte stands
  pub same_first : (cs : List (Part L)) (g h : Grammar L) (i : ℕ) → i < length s → deriv g i (get_or s i 0) ≡ deriv h i (get_or s i 0)
      → from r s (ahead cs g) i ≡ from r s (ahead cs h) i
  same_first cs g h i at e =
      same_byte (ahead cs g) (ahead cs h) i at (ahead-deriv cs g i (get_or s i 0) ∙ ap (ahead cs) e ∙ sym (ahead-deriv cs h i (get_or s i 0)))

  pub same-judge : (cs : List (Part L)) (g h : Grammar L) (i : ℕ) → (i < length s → deriv g i (get_or s i 0) ≡ deriv h i (get_or s i 0))
      → nullable g ≡ nullable h → ends g i ≡ ends h i → from r s (ahead cs g) i ≡ from r s (ahead cs h) i
  same-judge cs g h i d n e = go (ltb i (length s)) refl
    where
      go : (x : Bool) → ltb i (length s) ≡ x → from r s (ahead cs g) i ≡ from r s (ahead cs h) i
      go true f = let at = ltb-true i (length s) f in same_first cs g h i at (d at)
      go false f =
          same_end (ahead cs g) (ahead cs h) i (ltb-false i (length s) f) (ahead-nullable cs g ∙ n ∙ sym (ahead-nullable cs h))
          (ahead-ends cs g i ∙ ap (ahead cs) e ∙ sym (ahead-ends cs h i))

  module _ (cs : List (Part L)) (g : Grammar L) (i : ℕ) where
    -- behind a byte, h is left
    module _ (h : Grammar L) (at : i < length s) (e : deriv g i (get_or s i 0) ≡ h) where
      left : ahead cs h ≡ deriv (ahead cs g) i (get_or s i 0)
      left = ap (ahead cs) (sym e) ∙ sym (ahead-deriv cs g i (get_or s i 0))

      limits : live h ≡ true → r.limit i (held (ahead cs h)) ≡ r.limit i (cs ++ held h)
      limits l = ap (r.limit i) (ahead-held cs h l)

      pub goes_on : live h ≡ true → r.limit i (cs ++ held h) ≡ none → from r s (ahead cs g) i ≡ from r s (ahead cs h) (i + 1)
      goes_on l q = judge-next r s (ahead cs g) i (ahead cs h) at left (ahead-live cs h ∙ l) (limits l ∙ q)

      pub breaks_off : {x : Limit} → live h ≡ true → r.limit i (cs ++ held h) ≡ some x
          → from r s (ahead cs g) i ≡ refused (limit_number x) i
      breaks_off l q = judge-broken r s (ahead cs g) i (ahead cs h) at left (ahead-live cs h ∙ l) (limits l ∙ q)

    pub stops_at : i < length s → deriv g i (get_or s i 0) ≡ void → from r s (ahead cs g) i ≡ refused 1 i
    stops_at at e = judge-dead r s (ahead cs g) i (ahead cs void) at (left void at e) (ahead-live cs void)

    pub ends-early : length s ≤ i → nullable g ≡ false → from r s (ahead cs g) i ≡ refused 1 i
    ends-early at n = judge-end r s (ahead cs g) i at ∙ rw (ahead-nullable cs g ∙ n)

  -- ## Parts

  module _ (cs : List (Part L)) (g : Grammar L) (l : live g ≡ true) where
    -- a part begins
    pub part-begins : (k : L) (x : Grammar L) (i : ℕ)
        → from r s (ahead cs (then (part k x) g)) i ≡ from r s (ahead cs (then (rest (record { label = k; start = i; text = [] }) x) g)) i
    part-begins k x i = go (follows g)
      where
        p : Part L
        p = record { label = k; start = i; text = [] }

        go : Follows g → from r s (ahead cs (then (part k x) g)) i ≡ from r s (ahead cs (then (rest (record { label = k; start = i; text = [] }) x) g)) i
        go (nothing e) = dead-live g e l
        go (blank e) = rw e (same-judge cs (part k x) (rest (record { label = k; start = i; text = [] }) x) i (λ at. refl) refl refl)
        go (solid f) =
            rw (f (part k x), f (rest (record { label = k; start = i; text = [] }) x))
            (same-judge cs (part k x ⨾ g) (rest (record { label = k; start = i; text = [] }) x ⨾ g) i (λ at. refl) refl refl)

    module _ (p : Part L) (x : Grammar L) (i : ℕ) where
      -- it has ended, where neither a byte nor the end goes on with it
      pub part-ends : (i < length s → deriv x i (get_or s i 0) ≡ void) → ends x i ≡ empty → nullable x ≡ true
          → from r s (ahead cs (then (rest p x) g)) i ≡ from r s (ahead (cs ++ p ∷ []) g) i
      part-ends d e n =
          same-judge cs (then (rest p x) g) (then (rest p empty) g) i (λ at. rest_out p x g l i (get_or s i 0) (d at) e)
          (rest-nullable p x g l i ∙ ap (λ (b : Bool). b && nullable g) n ∙ sym (rest-nullable p empty g l i))
          (rest_end p x g l i ∙ ap (λ (y : Grammar L). seq (during p y) (ends g i)) e ∙ sym (rest_end p empty g l i))
          ∙ ap (λ (h : Grammar L). from r s h i) (sym (ahead-one cs p g))

      -- it goes on with a byte, behind which y is left of it
      module _ (h : held g ≡ []) (y : Grammar L) (at : i < length s) (e : deriv x i (get_or s i 0) ≡ y) (k : live y ≡ true) (f : held y ≡ [])
          (o : seq (during p (ends x i)) (deriv g i (get_or s i 0)) ≡ void) where
        grows : Part L
        grows = grown p (get_or s i 0 ∷ [])

        lives : live (then (rest (grown p (get_or s i 0 ∷ [])) y) g) ≡ true
        lives = then-live (rest (grown p (get_or s i 0 ∷ [])) y) g l ∙ k

        holds : cs ++ held (then (rest (grown p (get_or s i 0 ∷ [])) y) g) ≡ cs ++ (grown p (get_or s i 0 ∷ []) ∷ [])
        holds =
            ap (λ (qs : List (Part L)). cs ++ qs)
            (then-held (rest (grown p (get_or s i 0 ∷ [])) y) g l h ∙ ap (λ (qs : List (Part L)). grown p (get_or s i 0 ∷ []) ∷ qs) f)

        pub part-goes-on : r.limit i (cs ++ grown p (get_or s i 0 ∷ []) ∷ []) ≡ none
            → from r s (ahead cs (then (rest p x) g)) i ≡ from r s (ahead cs (then (rest (grown p (get_or s i 0 ∷ [])) y) g)) (i + 1)
        part-goes-on q =
            goes_on cs (then (rest p x) g) i (then (rest (grown p (get_or s i 0 ∷ [])) y) g) at (rest_in p x g l i (get_or s i 0) y e k o) lives
            (ap (r.limit i) holds ∙ q)

        pub part-breaks : {z : Limit} → r.limit i (cs ++ grown p (get_or s i 0 ∷ []) ∷ []) ≡ some z
            → from r s (ahead cs (then (rest p x) g)) i ≡ refused (limit_number z) i
        part-breaks q =
            breaks_off cs (then (rest p x) g) i (then (rest (grown p (get_or s i 0 ∷ [])) y) g) at (rest_in p x g l i (get_or s i 0) y e k o) lives
            (ap (r.limit i) holds ∙ q)

      -- a byte that is neither one of the part nor may end it; the end
      pub part-fails : i < length s → deriv x i (get_or s i 0) ≡ void → ends x i ≡ void
          → from r s (ahead cs (then (rest p x) g)) i ≡ refused 1 i
      part-fails at d e = stops_at cs (then (rest p x) g) i at (rest-neither p x g l i (get_or s i 0) d e)

      pub part-cut_off : length s ≤ i → nullable x ≡ false → from r s (ahead cs (then (rest p x) g)) i ≡ refused 1 i
      part-cut_off at n = ends-early cs (then (rest p x) g) i at (rest-nullable p x g l i ∙ ap (λ (b : Bool). b && nullable g) n)

  -- ## A run of bytes of a class, as a part

  module _ (cs : List (Part L)) (k : L) (c : Class) (g : Grammar L) (l : live g ≡ true) (h : held g ≡ [])
      (apart : (j b : ℕ) → c.has b ≡ true → deriv g j b ≡ void) (i e : ℕ) (run : Run c.has s i e) where
    -- the part as far as the place j
    abbrev pub upto : ℕ → Part L
    upto j = record { label = k; start = i; text = slice s i j }

    abbrev in_run : ℕ → Grammar L
    in_run j = ahead cs (then (rest (upto j) (star (byte c))) g)

    grown-on : (j : ℕ) → i ≤ j → j < length s → grown (upto j) (get_or s j 0 ∷ []) ≡ upto (j + 1)
    grown-on j a b = ap (λ (t : List ℕ). record { label = k; start = i; text = t }) (sym (slice_snoc s i j a b))

    star-has : (j b : ℕ) → c.has b ≡ true → deriv {L = L} (star (byte c)) j b ≡ star (byte c)
    star-has j b e = rw e

    other-dead : (j b : ℕ) (p : Part L) → c.has b ≡ true → seq (during p (ends {L = L} (star (byte c)) j)) (deriv g j b) ≡ void
    other-dead j b p e = rw (apart j b e)

    step_in : (j : ℕ) → i ≤ j → j < e → r.limit j (cs ++ upto (j + 1) ∷ []) ≡ none
        → from r s (in_run j) j ≡ from r s (in_run (j + 1)) (j + 1)
    step_in j a b q =
        let at : j < length s = omega (arith, run.within) in
        let f = run.inside j a b in
        part-goes-on cs g l (upto j) (star (byte c)) j h (star (byte c)) at (star-has j (get_or s j 0) f) refl refl (other-dead j (get_or s j 0) (upto j) f)
        (ap (λ (p : Part L). r.limit j (cs ++ p ∷ [])) (grown-on j a at) ∙ q)
        ∙ ap (λ (p : Part L). from r s (ahead cs (then (rest p (star (byte c))) g)) (j + 1)) (grown-on j a at)

    walk : (m j t : ℕ) → j + m ≡ t → i ≤ j → t ≤ e → ((n : ℕ) → j ≤ n → n < t → r.limit n (cs ++ upto (n + 1) ∷ []) ≡ none)
        → from r s (in_run j) j ≡ from r s (in_run t) t
    walk zero j t a b d q =
        let f : j ≡ t = omega arith in
        ap (λ (n : ℕ). from r s (in_run n) n) f
    walk (suc m) j t a b d q =
        step_in j b (omega arith) (q j (omega arith) (omega arith))
        ∙ walk m (j + 1) t (omega arith) (omega arith) d (λ n x y. q n (omega arith) y)

    run-over : from r s (in_run e) e ≡ from r s (ahead (cs ++ upto e ∷ []) g) e
    run-over = part-ends cs g l (upto e) (star (byte c)) e (λ at. rw (run.stops at)) refl refl

    -- a limit that the byte at t breaks
    break_in : {z : Limit} (t : ℕ) → i ≤ t → t < e → r.limit t (cs ++ upto (t + 1) ∷ []) ≡ some z
        → from r s (in_run t) t ≡ refused (limit_number z) t
    break_in t a b q =
        let at : t < length s = omega (arith, run.within) in
        let f = run.inside t a b in
        part-breaks cs g l (upto t) (star (byte c)) t h (star (byte c)) at (star-has t (get_or s t 0) f) refl refl (other-dead t (get_or s t 0) (upto t) f)
        (ap (λ (p : Part L). r.limit t (cs ++ p ∷ [])) (grown-on t a at) ∙ q)

    -- no byte before t breaks a limit
    abbrev pub Quiet : ℕ → Type 0
    Quiet t = (n : ℕ) → i ≤ n → n < t → r.limit n (cs ++ upto (n + 1) ∷ []) ≡ none

    -- none, one or more bytes
    module _ where
      begun : from r s (ahead cs (then (part k (star (byte c))) g)) i ≡ from r s (in_run i) i
      begun =
          part-begins cs g l k (star (byte c)) i
          ∙ ap (λ (t : List ℕ). from r s (ahead cs (then (rest (record { label = k; start = i; text = t }) (star (byte c))) g)) i) (sym (slice-none s i))

      pub part-star : Quiet e → from r s (ahead cs (then (part k (star (byte c))) g)) i ≡ from r s (ahead (cs ++ upto e ∷ []) g) e
      part-star q =
          begun ∙ walk (e - i) i e (omega (arith, run.ordered)) (omega arith) (omega arith) q ∙ run-over

      pub part-star-breaks : {z : Limit} (t : ℕ) → i ≤ t → t < e → Quiet t → r.limit t (cs ++ upto (t + 1) ∷ []) ≡ some z
          → from r s (ahead cs (then (part k (star (byte c))) g)) i ≡ refused (limit_number z) t
      part-star-breaks t a b q f =
          begun ∙ walk (t - i) i t (omega arith) (omega arith) (omega arith) q ∙ break_in t a b f

    -- one or more bytes
    module _ where
      abbrev first : Part L
      first = record { label = k; start = i; text = [] }

      first-grown : i < length s → grown first (get_or s i 0 ∷ []) ≡ upto (i + 1)
      first-grown at =
          ap (λ (t : List ℕ). record { label = k; start = i; text = t })
          (sym (slice_snoc s i i (omega arith) at ∙ ap (λ (t : List ℕ). t ++ (get_or s i 0 ∷ [])) (slice-none s i)))

      plus-has : (b : ℕ) → c.has b ≡ true → deriv {L = L} (plus (byte c)) i b ≡ star (byte c)
      plus-has b f = rw f

      plus-not : (b : ℕ) → c.has b ≡ false → deriv {L = L} (plus (byte c)) i b ≡ void
      plus-not b f = rw f

      enters : i < e → r.limit i (cs ++ upto (i + 1) ∷ []) ≡ none
          → from r s (ahead cs (then (part k (plus (byte c))) g)) i ≡ from r s (in_run (i + 1)) (i + 1)
      enters a q =
          let at : i < length s = omega (arith, run.within) in
          let f = run.inside i (omega arith) a in
          part-begins cs g l k (plus (byte c)) i
          ∙ part-goes-on cs g l first (plus (byte c)) i h (star (byte c)) at (plus-has (get_or s i 0) f) refl refl refl
          (ap (λ (p : Part L). r.limit i (cs ++ p ∷ [])) (first-grown at) ∙ q)
          ∙ ap (λ (p : Part L). from r s (ahead cs (then (rest p (star (byte c))) g)) (i + 1)) (first-grown at)

      pub part-plus : i < e → Quiet e → from r s (ahead cs (then (part k (plus (byte c))) g)) i ≡ from r s (ahead (cs ++ upto e ∷ []) g) e
      part-plus a q =
          enters a (q i (omega arith) a)
          ∙ walk (e - (i + 1)) (i + 1) e (omega arith) (omega arith) (omega arith) (λ n x y. q n (omega arith) y) ∙ run-over

      pub part-plus-none : e ≤ i → from r s (ahead cs (then (part k (plus (byte c))) g)) i ≡ refused 1 i
      part-plus-none a = part-begins cs g l k (plus (byte c)) i ∙ go (ltb i (length s)) refl
        where
          go : (x : Bool) → ltb i (length s) ≡ x → from r s (ahead cs (then (rest first (plus (byte c))) g)) i ≡ refused 1 i
          go true f =
              let b : e ≡ i = omega (arith, run.ordered) in
              let at = ltb-true i (length s) f in
              part-fails cs g l first (plus (byte c)) i at
              (plus-not (get_or s i 0) (subst (λ (n : ℕ). n < length s → c.has (get_or s n 0) ≡ false) b run.stops at)) refl
          go false f = part-cut_off cs g l first (plus (byte c)) i (ltb-false i (length s) f) refl

      pub part-plus-breaks : {z : Limit} (t : ℕ) → i ≤ t → t < e → Quiet t → r.limit t (cs ++ upto (t + 1) ∷ []) ≡ some z
          → from r s (ahead cs (then (part k (plus (byte c))) g)) i ≡ refused (limit_number z) t
      part-plus-breaks {z} t a b q f = go (ltb i t) refl
        where
          go : (x : Bool) → ltb i t ≡ x → from r s (ahead cs (then (part k (plus (byte c))) g)) i ≡ refused (limit_number z) t
          go true d =
              let v = ltb-true i t d in
              enters (omega arith) (q i (omega arith) v)
              ∙ walk (t - (i + 1)) (i + 1) t (omega arith) (omega arith) (omega arith) (λ n x y. q n (omega arith) y) ∙ break_in t a b f
          go false d =
              let v : t ≡ i = omega (arith, ltb-false i t d) in
              subst (λ (n : ℕ). from r s (ahead cs (then (part k (plus (byte c))) g)) i ≡ refused (limit_number z) n) (sym v) (here (rw v at f))
            where
              here : r.limit i (cs ++ upto (i + 1) ∷ []) ≡ some z
                  → from r s (ahead cs (then (part k (plus (byte c))) g)) i ≡ refused (limit_number z) i
              here w =
                  let at : i < length s = omega (arith, run.within) in
                  let u = run.inside i (omega arith) (omega arith) in
                  part-begins cs g l k (plus (byte c)) i
                  ∙ part-breaks cs g l first (plus (byte c)) i h (star (byte c)) at (plus-has (get_or s i 0) u) refl refl refl
                  (ap (λ (p : Part L). r.limit i (cs ++ p ∷ [])) (first-grown at) ∙ w)

  -- ## A byte outside parts

  module _ (cs : List (Part L)) (c : Class) (g : Grammar L) (l : live g ≡ true) (i : ℕ) where
    pub byte-is : i < length s → c.has (get_or s i 0) ≡ true → r.limit i (cs ++ held g) ≡ none
        → from r s (ahead cs (then (byte c) g)) i ≡ from r s (ahead cs g) (i + 1)
    byte-is at h q = goes_on cs (then (byte c) g) i g at (then-byte c g l i (get_or s i 0) ∙ rw h) l q

    pub byte-not : i < length s → c.has (get_or s i 0) ≡ false → from r s (ahead cs (then (byte c) g)) i ≡ refused 1 i
    byte-not at h = stops_at cs (then (byte c) g) i at (then-byte c g l i (get_or s i 0) ∙ rw h)

    pub byte-none : length s ≤ i → from r s (ahead cs (then (byte c) g)) i ≡ refused 1 i
    byte-none at = ends-early cs (then (byte c) g) i at (then-byte-nullable c g l i 0)

    -- the same for a ⨾ that is written out
    pub first-is : i < length s → c.has (get_or s i 0) ≡ true → r.limit i (cs ++ held g) ≡ none
        → from r s (ahead cs (byte c ⨾ g)) i ≡ from r s (ahead cs g) (i + 1)
    first-is at h q = goes_on cs (byte c ⨾ g) i g at (byte_step c i (get_or s i 0) g ∙ rw h) l q

    pub first-not : i < length s → c.has (get_or s i 0) ≡ false → from r s (ahead cs (byte c ⨾ g)) i ≡ refused 1 i
    first-not at h = stops_at cs (byte c ⨾ g) i at (byte_step c i (get_or s i 0) g ∙ rw h)

    pub first-none : length s ≤ i → from r s (ahead cs (byte c ⨾ g)) i ≡ refused 1 i
    first-none at = ends-early cs (byte c ⨾ g) i at refl

  -- ## The end

  pub ends-well : (cs : List (Part L)) (i : ℕ) → length s ≤ i → from r s (ahead cs empty) i ≡ finished r cs
  ends-well cs i at =
      judge-end r s (ahead cs empty) i at ∙ rw (ahead-nullable cs empty, ahead-ends cs empty i, ahead-held cs empty refl, append-nil cs)

  pub goes_too_far : (cs : List (Part L)) (i : ℕ) → i < length s → from r s (ahead cs empty) i ≡ refused 1 i
  goes_too_far cs i at = stops_at cs empty i at refl
