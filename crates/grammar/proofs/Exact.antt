-- The computed answer is the one that is asked for, and the only one: `header r s ≡ v` just if `Answers r s v`.
use Prim.Native.Nat.{ℕ, suc, ◌+◌, ◌-◌, ◌≤◌, ◌<◌}
use native.Mathlib.Omega.{arith}
use borrow.Author.Tests.{ltb-true, ltb-false}
use mathlib.Core.Path.{◌≡◌, refl, sym, ap, subst, ◌∙◌}
use mathlib.Core.Logic.{◌⊎◌, inl, inr, ◌↔◌, ⊎_elim}
use mathlib.Core.Bool.{Bool, true, false, cond}
use mathlib.Core.List.{List, [], ◌∷◌, ◌++◌, append-nil, append_assoc}
use mathlib.Core.Option.{Option, none, some}
use lib.Dec.{T, ltb}
use lib.ListN.{length, take, length-append}
use lib.Seq.{take_at, take-length, take-append-add}
use Rattle.grammar.specs.Grammar.{Part, Grammar, Parses, past}
use Rattle.grammar.specs.Beginnings.{Live, Longest}
use Rattle.grammar.specs.helpers.Derivative.{live, nullable, ends, residual}
use Rattle.grammar.specs.Reading.{value_limit, Limit, Fault, limit_number, fault_number, Rules}
use Rattle.grammar.specs.Reading.{parts_before, SoFar, Passes, Breaks, Sound, Verdict, value, refused}
use Rattle.grammar.specs.Reading.{Answers, too_long, malformed, breaks, faulty, reads}
use Rattle.grammar.specs.helpers.Judge.{held, unless, turn, unless_fault, finished, judge, header}
use Rattle.grammar.specs.helpers.Checks.{fresh?, clear?}
use Rattle.grammar.proofs.Derivative.{residual-means, to-ends}
use Rattle.grammar.proofs.Longest.{past-length, past_snoc, residual_snoc, live_of, text_of, nullable-of, of-nullable}
use Rattle.grammar.proofs.Longest.{live_computed, live-front}
use Rattle.grammar.proofs.Held.{fresh-begun, residual-begun, held-before, held-end, still_ends}

at_end : (p : List ℕ) → past 0 p ≡ length p
at_end p = past-length 0 p ∙ omega arith

pub below : (k n : ℕ) → k < suc n → (k < n) ⊎ (k ≡ n)
below k n h = go (ltb k n) refl
  where
    go : (x : Bool) → ltb k n ≡ x → (k < n) ⊎ (k ≡ n)
    go true e = inl (ltb-true k n e)
    go false e = inr (omega (arith, ltb-false k n e))

pub orders : (k n : ℕ) → (k < n) ⊎ ((n < k) ⊎ (k ≡ n))
orders k n = go (ltb k n) (ltb n k) refl refl
  where
    go : (x y : Bool) → ltb k n ≡ x → ltb n k ≡ y → (k < n) ⊎ ((n < k) ⊎ (k ≡ n))
    go true y e f = inl (ltb-true k n e)
    go false true e f = inr (inl (ltb-true n k f))
    go false false e f = inr (inr (omega (arith, ltb-false k n e, ltb-false n k f)))

none-some : {A : Type 0} {x : A} → none ≡ some x → ⊥
none-some e = let z : ◌≡◌ {A = ℕ} 0 1 = cc in omega arith

some_inj : {A : Type 0} {x y : A} → some x ≡ some y → x ≡ y
some_inj e = cc

module _ {L : Type 0} where
  -- on every way through the grammar the parts that have begun are the same
  abbrev pub Steady : Grammar L → Type 0
  Steady g = (p : List ℕ) → T (clear? (residual g 0 p)) × T (clear? (ends (residual g 0 p) (past 0 p)))

module _ {L A : Type 0} (r : Rules L A) (fresh : T (fresh? r.grammar)) (steady : Steady r.grammar) where
  abbrev g : Grammar L
  g = r.grammar

  pub begun-parts : (p t : List ℕ) (qs : List (Part L)) → Parses (residual g 0 p) (past 0 p) t qs
      → parts_before (length p) qs ≡ held (residual g 0 p)
  begun-parts p t qs m =
      ap (λ (n : ℕ). parts_before n qs) (sym (at_end p))
      ∙ held-before (residual g 0 p) (past 0 p) t qs (residual-begun g 0 p (fresh-begun g 0 fresh)) (steady p).0 m

  pub so_far : (p : List ℕ) (ps : List (Part L)) → SoFar r p ps → T (live (residual g 0 p)) × (ps ≡ held (residual g 0 p))
  so_far p ps v =
      let m = (residual-means g 0 p v.0 v.1).0 v.3 in
      (live_of (residual g 0 p) (past 0 p) v.0 v.1 m, v.4 ∙ begun-parts p v.0 v.1 m)

  pub of_live : (p : List ℕ) → T (live (residual g 0 p)) → SoFar r p (held (residual g 0 p))
  of_live p l =
      let x = text_of (residual g 0 p) (past 0 p) l in
      (x.0, x.1, x.2, (residual-means g 0 p x.0 x.1).1 x.3, sym (begun-parts p x.0 x.1 x.3))

  abbrev parts : List ℕ → List (Part L)
  parts s = held (ends (residual g 0 s) (past 0 s))

  end-parts : (s : List ℕ) (ps : List (Part L)) → Parses (residual g 0 s) (past 0 s) [] ps → ps ≡ parts s
  end-parts s ps m =
      held-end (ends (residual g 0 s) (past 0 s)) (past 0 s) ps (steady s).1 (still_ends (residual g 0 s) (past 0 s)) (to-ends (residual g 0 s) (past 0 s) (past 0 s) ps m)

  pub parse_end : (s : List ℕ) (ps : List (Part L)) → Parses g 0 s ps → T (nullable (residual g 0 s)) × (ps ≡ parts s)
  parse_end s ps m =
      let n = (residual-means g 0 s [] ps).0 (rw append-nil m) in
      (nullable-of (residual g 0 s) (past 0 s) ps n, end-parts s ps n)

  -- a text has one list of parts
  pub one_parse : (s : List ℕ) (ps qs : List (Part L)) → Parses g 0 s ps → Parses g 0 s qs → ps ≡ qs
  one_parse s ps qs m n = (parse_end s ps m).1 ∙ sym (parse_end s qs n).1

  pub end_parse : (s : List ℕ) → T (nullable (residual g 0 s)) → Parses g 0 s (parts s)
  end_parse s n =
      let x = of-nullable (residual g 0 s) (past 0 s) n in
      let m = (residual-means g 0 s [] x.0).1 x.1 in
      rw (append-nil, end-parts s x.0 x.1) at m

  -- The judgement is one that is asked.
  module _ (s : List ℕ) (short : length s ≤ value_limit) where
    -- no byte before the place n breaks a limit, and none is passed with the last of them
    abbrev Clean : ℕ → Type 0
    Clean n = Sound r s n × ((x : Limit) → Passes r s x n → ⊥)

    -- at the end
    finish-whole : Parses g 0 s (parts s) → Sound r s (length s) → (f : Option Fault) → r.fault (parts s) ≡ f
        → Answers r s (unless_fault f (r.value (parts s)))
    finish-whole m q none e = reads short m q e
    finish-whole m q (some f) e = faulty short m q e

    finish : (p : List ℕ) → s ≡ p → T (live (residual g 0 p)) → Sound r s (length p) → (x : Bool) → nullable (residual g 0 p) ≡ x
        → Answers r s (cond x (finished r (parts p)) (refused 1 (past 0 p)))
    finish p e l q true f =
        rw (← e) (finish-whole (end_parse s (rw (e, f) tt)) (rw (← e) at q) (r.fault (parts s)) refl)
    finish p e l q false f =
        rw (at_end p) (malformed {p = length p} short (λ m. rw f at (parse_end p m.0 (rw e at m.1)).0)
        (record { within = omega (arith, ap length e); lives = rw (e, take-length) ((live_computed g p).1 l); longest = λ m h v. omega (arith, ap length e) })
        (λ k x h br. q k x (omega arith) br))

    -- at a byte
    module _ (p : List ℕ) (b : ℕ) (t : List ℕ) (e : s ≡ p ++ (b ∷ t)) where
      abbrev on : List ℕ
      on = p ++ (b ∷ [])

      all : s ≡ on ++ t
      all = e ∙ sym (append_assoc p (b ∷ []) t)

      on-length : length on ≡ suc (length p)
      on-length = length-append p (b ∷ []) ∙ omega arith

      within : suc (length p) ≤ length s
      within = omega (arith, ap length all, length-append on t, on-length)

      through : take (suc (length p)) s ≡ on
      through = ap (take (suc (length p))) all ∙ take_at on t (suc (length p)) on-length

      beyond : (m : ℕ) → length p < m → take m s ≡ on ++ take (m - suc (length p)) t
      beyond m h =
          let f : m ≡ length on + (m - suc (length p)) = omega (arith, on-length) in
          ap (λ (l : List ℕ). take m l) all ∙ ap (λ (n : ℕ). take n (on ++ t)) f ∙ take-append-add on t (m - suc (length p))

      dead : T (live (residual g 0 p)) → Sound r s (length p) → (T (live (residual g 0 on)) → ⊥) → Answers r s (refused 1 (length p))
      dead l q d =
          malformed {p = length p} short
          (λ m. d (live-front g on t ([], tt, (m.0, rw (append-nil, ← all) m.1))))
          (record {
            within = omega (arith, within);
            lives = rw (e, take_at p (b ∷ t) (length p) refl) ((live_computed g p).1 l);
            longest = λ m h v. longer m v (ltb (length p) m) refl;
          })
          (λ k x h br. q k x (omega arith) br)
        where
          longer : (m : ℕ) → Live g (take m s) → (x : Bool) → ltb (length p) m ≡ x → m ≤ length p
          longer m v true f = absurd (d (live-front g on (take (m - suc (length p)) t) (rw (beyond m (ltb-true (length p) m f)) at v)))
          longer m v false f = ltb-false (length p) m f

      over : (x : Limit) → T (live (residual g 0 on)) → Clean (length p) → r.limit (length p) (held (residual g 0 on)) ≡ some x
          → Answers r s (refused (limit_number x) (length p))
      over x l q f =
          breaks {l = x} {p = length p} short (omega (arith, within), (held (residual g 0 on), rw through (of_live on l), f), q.1 x) q.0

      module _ (f : r.limit (length p) (held (residual g 0 on)) ≡ none) where
        unpassed : (x : Limit) → Passes r s x (suc (length p)) → ⊥
        unpassed x v =
            let w = so_far on v.0 (subst (λ (l : List ℕ). SoFar r l v.0) through v.1) in
            none-some (sym f ∙ sym (ap (r.limit (length p)) w.1) ∙ v.2)

        clean : Clean (length p) → Clean (length on)
        clean q = (
          λ k x h br.
              ⊎_elim (λ y. q.0 k x y br) (λ y. unpassed x (subst (λ (j : ℕ). Passes r s x (suc j)) y br.1))
              (below k (length p) (omega (arith, on-length))),
          subst (λ (n : ℕ). (x : Limit) → Passes r s x n → ⊥) (sym on-length) unpassed,
        )

    step : (p : List ℕ) (b : ℕ) (t : List ℕ) → s ≡ p ++ (b ∷ t) → T (live (residual g 0 p)) → Clean (length p)
        → (x : Bool) (y : Option Limit)
        → live (residual g 0 (p ++ b ∷ [])) ≡ x → r.limit (length p) (held (residual g 0 (p ++ b ∷ []))) ≡ y
        → (s ≡ (p ++ b ∷ []) ++ t → T (live (residual g 0 (p ++ b ∷ []))) → Clean (length (p ++ b ∷ []))
        → Answers r s (judge r (residual g 0 (p ++ b ∷ [])) t (past 0 (p ++ b ∷ []))))
        → Answers r s (cond x (unless y (length p) (judge r (residual g 0 (p ++ b ∷ [])) t (past 0 (p ++ b ∷ [])))) (refused 1 (length p)))
    step p b t e l q true none f h k = k (all p b t e) (rw f tt) (clean p b t e h q)
    step p b t e l q true (some x) f h k = over p b t e x (rw f tt) q h
    step p b t e l q false y f h k = dead p b t e l q.0 (λ z. rw f at z)

    turned : (p : List ℕ) (b : ℕ) (t : List ℕ)
        → judge r (residual g 0 p) (b ∷ t) (past 0 p)
        ≡ turn (live (residual g 0 (p ++ b ∷ []))) (r.limit (length p) (held (residual g 0 (p ++ b ∷ [])))) (length p) (judge r (residual g 0 (p ++ b ∷ [])) t (past 0 (p ++ b ∷ [])))
    turned p b t = rw (residual_snoc g 0 p b, past_snoc 0 p b, ← at_end p)

    walk : (p t : List ℕ) → s ≡ p ++ t → T (live (residual g 0 p)) → Clean (length p) → Answers r s (judge r (residual g 0 p) t (past 0 p))
    walk p [] e l q = finish p (e ∙ append-nil p) l q.0 (nullable (residual g 0 p)) refl
    walk p (b ∷ t) e l q =
        rw (turned p b t)
        (step p b t e l q (live (residual g 0 (p ++ b ∷ []))) (r.limit (length p) (held (residual g 0 (p ++ b ∷ [])))) refl refl (walk (p ++ b ∷ []) t))

  pub judged : (s : List ℕ) → T (live g) → Answers r s (header r s)
  judged s l = go (ltb value_limit (length s)) refl
    where
      go : (x : Bool) → ltb value_limit (length s) ≡ x → Answers r s (cond x (refused 13 value_limit) (judge r g s 0))
      go true e = too_long (omega (arith, ltb-true value_limit (length s) e))
      go false e = walk s (ltb-false value_limit (length s) e) [] s refl l (λ k n h. absurd (omega arith), λ x v. v)

  -- Only one is.
  last : (s : List ℕ) (x : Limit) (k p : ℕ) → Longest g s p → Sound r s p → Breaks r s x k → ⊥
  last s x k p l q br = go (ltb k p) refl
    where
      go : (y : Bool) → ltb k p ≡ y → ⊥
      go true e = q k x (ltb-true k p e) br
      go false e =
          let v = br.1.1 in
          omega (arith, l.longest (suc k) br.0 (v.0, v.2, (v.1, v.3)), ltb-false k p e)

  same-limit : (s : List ℕ) (x y : Limit) (p k : ℕ) → p ≡ k → Breaks r s x p → Breaks r s y k → x ≡ y
  same-limit s x y p k h c z =
      some_inj
      (sym c.1.2 ∙ ap (r.limit p) (so_far (take (suc p) s) c.1.0 c.1.1).1
      ∙ ap (λ (j : ℕ). r.limit j (held (residual g 0 (take (suc j) s)))) h
      ∙ sym (ap (r.limit k) (so_far (take (suc k) s) z.1.0 z.1.1).1) ∙ z.1.2)

  pub only : (s : List ℕ) (v w : Verdict A) → Answers r s v → Answers r s w → v ≡ w
  only s v w (too_long a) (too_long x) = refl
  only s v w (too_long a) (malformed x y z u) = absurd (omega arith)
  only s v w (too_long a) (breaks x y z) = absurd (omega arith)
  only s v w (too_long a) (faulty x y z u) = absurd (omega arith)
  only s v w (too_long a) (reads x y z u) = absurd (omega arith)
  only s v w (malformed a b c d) (too_long x) = absurd (omega arith)
  only s v w (malformed {p} a b c d) (malformed {p = k} x y z u) =
      ap (refused 1) (omega (arith, c.longest k z.within z.lives, z.longest p c.within c.lives))
  only s v w (malformed {p} a b c d) (breaks {l} {p = k} x y z) = absurd (last s l k p c d y)
  only s v w (malformed a b c d) (faulty {ps} x y z u) = absurd (b (ps, y))
  only s v w (malformed a b c d) (reads {ps} x y z u) = absurd (b (ps, y))
  only s v w (breaks a b c) (too_long x) = absurd (omega arith)
  only s v w (breaks {l} {p} a b c) (malformed {p = k} x y z u) = absurd (last s l p k z u b)
  only s v w (breaks {l} {p} a b c) (breaks {l = m} {p = k} x y z) = go (orders p k)
    where
      go : (p < k) ⊎ ((k < p) ⊎ (p ≡ k)) → ◌≡◌ {A = Verdict A} (refused (limit_number l) p) (refused (limit_number m) k)
      go (inl h) = absurd (z p l h b)
      go (inr (inl h)) = absurd (c k m h y)
      go (inr (inr h)) =
          ap (λ (q : ℕ). refused (limit_number l) q) h ∙ ap (λ (q : Limit). refused (limit_number q) k) (same-limit s l m p k h b y)
  only s v w (breaks {l} {p} a b c) (faulty x y z u) = absurd (z p l b.0 b)
  only s v w (breaks {l} {p} a b c) (reads x y z u) = absurd (z p l b.0 b)
  only s v w (faulty a b c d) (too_long x) = absurd (omega arith)
  only s v w (faulty {ps} a b c d) (malformed x y z u) = absurd (y (ps, b))
  only s v w (faulty a b c d) (breaks {l} {p} x y z) = absurd (c p l y.0 y)
  only s v w (faulty {ps} {f} a b c d) (faulty {ps = qs} {f = h} x y z u) =
      ap (λ (k : Fault). refused (fault_number k) 0) (some_inj (sym d ∙ ap r.fault (one_parse s ps qs b y) ∙ u))
  only s v w (faulty {ps} a b c d) (reads {ps = qs} x y z u) = absurd (none-some (sym u ∙ ap r.fault (one_parse s qs ps y b) ∙ d))
  only s v w (reads a b c d) (too_long x) = absurd (omega arith)
  only s v w (reads {ps} a b c d) (malformed x y z u) = absurd (y (ps, b))
  only s v w (reads a b c d) (breaks {l} {p} x y z) = absurd (c p l y.0 y)
  only s v w (reads {ps} a b c d) (faulty {ps = qs} x y z u) = absurd (none-some (sym d ∙ ap r.fault (one_parse s ps qs b y) ∙ u))
  only s v w (reads {ps} a b c d) (reads {ps = qs} x y z u) = ap (λ (k : List (Part L)). value (r.value k)) (one_parse s ps qs b y)

  -- The theorem.
  pub answers : T (live g) → (s : List ℕ) (v : Verdict A) → (header r s ≡ v) ↔ Answers r s v
  answers l s v = (λ e. subst (λ (w : Verdict A). Answers r s w) e (judged s l), λ a. only s (header r s) v (judged s l) a)
