-- Parts that stand one behind the other, each as far as bytes go on with it: just those that do not fit break the rules they are judged by.
use Prim.Native.Nat.{ℕ, zero, suc, ◌+◌, ◌-◌, ◌≤◌, ◌<◌}
use native.Mathlib.Omega.{arith}
use borrow.Author.Tests.{eq-eqb, eqb-true, lt-ltb, le-ltb, ltb-true, ltb-false}
use mathlib.Core.Path.{◌≡◌, refl, sym, ap, ap₂, subst, ◌∙◌}
use mathlib.Core.Logic.{◌⊎◌, inl, inr, ⊎_elim}
use mathlib.Core.Bool.{Bool, true, false, cond, ◌&&◌, true≢false}
use mathlib.Core.List.{List, [], ◌∷◌, ◌++◌, append-nil, append_assoc}
use mathlib.Core.Option.{some}
use lib.Dec.{T, ltb, eqb}
use lib.ListN.{length, take, drop, get_or, length-append, take-append-drop}
use lib.Seq.{take_all, length-take-le, drop-cons, drop-append-le, drop-append_seam, drop-append-add}
use Rattle.grammar.specs.Grammar.{Part, Grammar, Parses, past}
use Rattle.grammar.specs.helpers.Derivative.{residual}
use Rattle.grammar.specs.helpers.Judge.{held}
use Rattle.grammar.specs.helpers.Checks.{fresh?}
use Rattle.grammar.specs.Reading.{Limit, unfit, Rules, parts_before, Passes}
use Rattle.grammar.specs.Endings.{Judgement, stops, ended, judging}
use Rattle.grammar.proofs.Derivative.{past_append, residual-means}
use Rattle.grammar.proofs.Endings.{ended-last}
use Rattle.grammar.proofs.Exact.{Steady, begun-parts, so_far, of_live}
use Rattle.grammar.proofs.Held.{before_append}
use Rattle.grammar.proofs.Longest.{past-length, live_of}

module _ {L : Type 0} (j : Judgement L) where
  -- bytes go on with the part c as far as it goes, and none of u, which follows it, does
  pub record Whole (c : Part L) (u : List ℕ) : Type 0 where
    pub inner : (m : ℕ) → 0 < m → m < length c.text → j.goes_on c.label (get_or c.text m 0) ≡ true
    pub outer : stops j c u ≡ true

  -- the parts stand in the text t, which stands at i and which w follows, one behind the other
  abbrev pub Laid : ℕ → List ℕ → List ℕ → List (Part L) → Type 0
  Laid i t w [] = Unit
  Laid i t w (c ∷ ps) =
      (g : List ℕ) × (u : List ℕ) × (t ≡ g ++ (c.text ++ u)) × (past i g ≡ c.start) × Whole c (u ++ w)
      × Laid (past c.start c.text) u w ps

  -- behind a text without parts
  pub laid-behind : (i : ℕ) (t u w : List ℕ) (ps : List (Part L)) → Laid (past i t) u w ps → Laid i (t ++ u) w ps
  laid-behind i t u w [] h = tt
  laid-behind i t u w (c ∷ ps) h = (
    t ++ h.0,
    h.1,
    ap (λ (x : List ℕ). t ++ x) h.2 ∙ sym (append_assoc t h.0 (c.text ++ h.1)),
    past_append i t h.0 ∙ h.3,
    h.4,
    h.5,
  )

  -- the parts of two texts
  pub laid_append : (i : ℕ) (t u w : List ℕ) (ps qs : List (Part L)) → Laid i t (u ++ w) ps → Laid (past i t) u w qs
      → Laid i (t ++ u) w (ps ++ qs)
  laid_append i t u w [] qs h k = laid-behind i t u w qs k
  laid_append i t u w (c ∷ ps) qs h k =
      let g = h.0 in
      let v = h.1 in
      let there = past_append i g (c.text ++ v) ∙ past_append (past i g) c.text v
      ∙ ap (λ (m : ℕ). past (past m c.text) v) h.3 in
      let e = ap (past i) h.2 ∙ there in (
        g,
        v ++ u,
        ap (λ (x : List ℕ). x ++ u) h.2 ∙ append_assoc g (c.text ++ v) u ∙ ap (λ (x : List ℕ). g ++ x) (append_assoc c.text v u),
        h.3,
        subst (Whole c) (sym (append_assoc v u w)) h.4,
        laid_append (past c.start c.text) v u w ps qs h.5 (subst (λ (m : ℕ). Laid m u w qs) e k),
      )

  -- ## One of the parts

  -- qs stand in p, then c stands, and rs in u
  pub record Split (i : ℕ) (t w : List ℕ) (qs : List (Part L)) (c : Part L) (rs : List (Part L)) : Type 0 where
    pub p : List ℕ
    pub u : List ℕ
    pub is : t ≡ p ++ (c.text ++ u)
    pub at : past i p ≡ c.start
    pub before : Laid i p (c.text ++ (u ++ w)) qs
    pub whole : Whole c (u ++ w)
    pub behind : Laid (past c.start c.text) u w rs

  split_at : (i : ℕ) (t w : List ℕ) (qs : List (Part L)) (c : Part L) (rs : List (Part L)) → Laid i t w (qs ++ c ∷ rs) → Split i t w qs c rs
  split_at i t w [] c rs h = record { p = h.0; u = h.1; is = h.2; at = h.3; before = tt; whole = h.4; behind = h.5 }
  split_at i t w (d ∷ qs) c rs h =
      let x = split_at (past d.start d.text) h.1 w qs c rs h.5 in
      let g = h.0 in
      let rest : h.1 ++ w ≡ x.p ++ (c.text ++ (x.u ++ w)) =
      ap (λ (y : List ℕ). y ++ w) x.is ∙ append_assoc x.p (c.text ++ x.u) w ∙ ap (λ (y : List ℕ). x.p ++ y) (append_assoc c.text x.u w) in
      record {
        p = g ++ (d.text ++ x.p);
        u = x.u;
        is = h.2 ∙ ap (λ (y : List ℕ). g ++ (d.text ++ y)) x.is
            ∙ ap (λ (y : List ℕ). g ++ y) (sym (append_assoc d.text x.p (c.text ++ x.u)))
            ∙ sym (append_assoc g (d.text ++ x.p) (c.text ++ x.u));
        at = past_append i g (d.text ++ x.p) ∙ past_append (past i g) d.text x.p
            ∙ ap (λ (m : ℕ). past (past m d.text) x.p) h.3 ∙ x.at;
        before = (g, x.p, refl, h.3, subst (Whole d) rest h.4, x.before);
        whole = x.whole;
        behind = x.behind;
      }

  pub ends-inside : (i : ℕ) (t w : List ℕ) (qs : List (Part L)) (c : Part L) (rs : List (Part L)) → Laid i t w (qs ++ c ∷ rs)
      → past c.start c.text ≤ past i t
  ends-inside i t w qs c rs h =
      let x = split_at i t w qs c rs h in
      let e = ap (past i) x.is ∙ past_append i x.p (c.text ++ x.u) ∙ past_append (past i x.p) c.text x.u
      ∙ ap (λ (m : ℕ). past (past m c.text) x.u) x.at in
      omega (arith, e, past-length (past c.start c.text) x.u)

  -- ## The parts before a place

  abbrev cut : ℕ → Part L → Part L
  cut n c = record { label = c.label; start = c.start; text = take (n - c.start) c.text }

  cut-whole : (n : ℕ) (c : Part L) → past c.start c.text ≤ n → cut n c ≡ c
  cut-whole n c h =
      ap (λ (t : List ℕ). record { label = c.label; start = c.start; text = t })
      (take_all (n - c.start) c.text (omega (arith, past-length c.start c.text)))

  all-before : (n i : ℕ) (t w : List ℕ) (ps : List (Part L)) → Laid i t w ps → past i t < n → parts_before n ps ≡ ps
  all-before n i t w [] h k = refl
  all-before n i t w (c ∷ ps) h k =
      let e = ap (past i) h.2 ∙ past_append i h.0 (c.text ++ h.1) ∙ past_append (past i h.0) c.text h.1
      ∙ ap (λ (m : ℕ). past (past m c.text) h.1) h.3 in
      let a = past-length (past c.start c.text) h.1 in
      let b = past-length c.start c.text in
      ap (λ (x : Bool). cond x (cut n c ∷ parts_before n ps) (parts_before n ps)) (lt-ltb c.start n (omega (arith, e, a, b)))
      ∙ ap₂ (λ (d : Part L) (qs : List (Part L)). d ∷ qs) (cut-whole n c (omega (arith, e, a)))
      (all-before n (past c.start c.text) h.1 w ps h.5 (omega (arith, e)))

  none_before : (n i : ℕ) (t w : List ℕ) (ps : List (Part L)) → Laid i t w ps → n ≤ i → parts_before n ps ≡ []
  none_before n i t w [] h k = refl
  none_before n i t w (c ∷ ps) h k =
      let a = past-length i h.0 in
      ap (λ (x : Bool). cond x (cut n c ∷ parts_before n ps) (parts_before n ps)) (le-ltb c.start n (omega (arith, a, h.3)))
      ∙ none_before n (past c.start c.text) h.1 w ps h.5 (omega (arith, a, h.3, past-length c.start c.text))

  -- a part with a byte is the last before its end
  pub last-before : (i : ℕ) (t w : List ℕ) (qs : List (Part L)) (c : Part L) (rs : List (Part L)) → Laid i t w (qs ++ c ∷ rs) → 0 < length c.text
      → parts_before (past c.start c.text) (qs ++ c ∷ rs) ≡ qs ++ c ∷ []
  last-before i t w qs c rs h long =
      let x = split_at i t w qs c rs h in
      let n = past c.start c.text in
      let b = past-length c.start c.text in
      before_append n qs (c ∷ rs)
      ∙ ap₂ (λ (y z : List (Part L)). y ++ z) (all-before n i x.p (c.text ++ (x.u ++ w)) qs x.before (omega (arith, x.at, b)))
      (ap (λ (y : Bool). cond y (cut n c ∷ parts_before n rs) (parts_before n rs)) (lt-ltb c.start n (omega (arith, b)))
      ∙ ap₂ (λ (d : Part L) (qs : List (Part L)). d ∷ qs) (cut-whole n c (omega arith)) (none_before n n x.u w rs x.behind (omega arith)))

  -- which part the last before a place is
  pub record LastBefore (n : ℕ) (ps : List (Part L)) : Type 0 where
    pub front : List (Part L)
    pub one : Part L
    pub back : List (Part L)
    pub all : ps ≡ front ++ one ∷ back
    pub begun : one.start < n
    pub is : parts_before n ps ≡ front ++ cut n one ∷ []

  find-last : (n i : ℕ) (t w : List ℕ) (ps : List (Part L)) → Laid i t w ps → (parts_before n ps ≡ []) ⊎ LastBefore n ps
  find-last n i t w [] h = inl refl
  find-last n i t w (c ∷ ps) h = go (ltb c.start n) refl (find-last n (past c.start c.text) h.1 w ps h.5)
    where
      first : ltb c.start n ≡ true → parts_before n (c ∷ ps) ≡ cut n c ∷ parts_before n ps
      first f = rw f

      go : (x : Bool) → ltb c.start n ≡ x → (parts_before n ps ≡ []) ⊎ LastBefore n ps → (parts_before n (c ∷ ps) ≡ []) ⊎ LastBefore n (c ∷ ps)
      go false f r =
          let b = past-length c.start c.text in
          inl (ap (λ (x : Bool). cond x (cut n c ∷ parts_before n ps) (parts_before n ps)) f
          ∙ none_before n (past c.start c.text) h.1 w ps h.5 (omega (arith, b, ltb-false c.start n f)))
      go true f (inl e) =
          inr (record {
            front = [];
            one = c;
            back = ps;
            all = refl;
            begun = ltb-true c.start n f;
            is = first f ∙ ap (λ (qs : List (Part L)). cut n c ∷ qs) e;
          })
      go true f (inr r) =
          let x = split_at (past c.start c.text) h.1 w r.front r.one r.back
          (subst (Laid (past c.start c.text) h.1 w) r.all h.5) in
          let b = past-length (past c.start c.text) x.p in
          inr (record {
            front = c ∷ r.front;
            one = r.one;
            back = r.back;
            all = ap (λ (qs : List (Part L)). c ∷ qs) r.all;
            begun = r.begun;
            is = first f ∙ ap₂ (λ (d : Part L) (qs : List (Part L)). d ∷ qs) (cut-whole n c (omega (arith, b, x.at, r.begun))) r.is;
          })

-- ## Judged

both_true : (x y : Bool) → (x && y) ≡ true → (x ≡ true) × (y ≡ true)
both_true true y e = (refl, e)
both_true false y e = absurd (true≢false (sym e))

module _ {L A : Type 0} (j : Judgement L) (r : Rules L A) (fresh : T (fresh? r.grammar)) (steady : Steady r.grammar)
    (s : List ℕ) (ps : List (Part L)) (p : Parses r.grammar 0 s ps) (laid : Laid j 0 s [] ps) where
  -- each part that ends at or before the place n fits those before it, once it has ended
  abbrev pub Fits : ℕ → Type 0
  Fits n =
      (qs : List (Part L)) (c : Part L) (rs : List (Part L)) → ps ≡ qs ++ c ∷ rs → 0 < length c.text → past c.start c.text ≤ n
      → j.misfit (qs ++ c ∷ []) ≡ false

  abbrev q : Rules L A
  q = judging j r s

  abbrev left : ℕ → Grammar L
  left n = residual r.grammar 0 (take n s)

  reads_on : (n : ℕ) → Parses (left n) (past 0 (take n s)) (drop n s) ps
  reads_on n =
      (residual-means r.grammar 0 (take n s) (drop n s) ps).0
      (subst (λ (t : List ℕ). Parses r.grammar 0 t ps) (sym (take-append-drop n s)) p)

  held-is : (n : ℕ) → n ≤ length s → held (left n) ≡ parts_before n ps
  held-is n h =
      sym (begun-parts q fresh steady (take n s) (drop n s) ps (reads_on n)) ∙ ap (λ (m : ℕ). parts_before m ps) (length-take-le n s h)

  -- which limit is passed with a byte, by the parts of the whole text
  module _ (l : Limit) (k : ℕ) (inside : suc k ≤ length s) where
    pub passed_with : Passes q s l (suc k) → q.limit k (parts_before (suc k) ps) ≡ some l
    passed_with v = ap (q.limit k) (sym ((so_far q fresh steady (take (suc k) s) v.0 v.1).1 ∙ held-is (suc k) inside)) ∙ v.2

    pub passes_with : q.limit k (parts_before (suc k) ps) ≡ some l → Passes q s l (suc k)
    passes_with e = (
      held (left (suc k)),
      of_live q fresh steady (take (suc k) s) (live_of (left (suc k)) (past 0 (take (suc k) s)) (drop (suc k) s) ps (reads_on (suc k))),
      ap (q.limit k) (held-is (suc k) inside) ∙ e,
    )

  -- where no byte passes it
  pub fits-of : ((k : ℕ) → k ≤ length s → Passes q s unfit k → ⊥) → Fits (length s)
  fits-of never qs c rs e some_byte inside = go (j.misfit (qs ++ c ∷ [])) refl
    where
      n : ℕ
      n = past c.start c.text

      x : Split j 0 s [] qs c rs
      x = split_at j 0 s [] qs c rs (subst (Laid j 0 s []) e laid)

      k : ℕ
      k = n - 1

      next : suc k ≡ n
      next = omega (arith, past-length c.start c.text)

      follows : drop n s ≡ x.u ++ []
      follows =
          let f : n ≡ length (x.p ++ c.text) = omega (arith, past-length c.start c.text, past-length 0 x.p, x.at, length-append x.p c.text) in
          ap₂ (λ (m : ℕ) (t : List ℕ). drop m t) f (x.is ∙ sym (append_assoc x.p c.text x.u))
          ∙ drop-append_seam (x.p ++ c.text) x.u ∙ sym (append-nil x.u)

      ends_there : ended j s k (qs ++ c ∷ []) ≡ true
      ends_there =
          ended-last j s k qs c
          ∙ rw (next, eq-eqb n n refl, follows) x.whole.outer

      parts_are : parts_before (suc k) ps ≡ qs ++ c ∷ []
      parts_are =
          ap₂ parts_before next e ∙ last-before j 0 s [] qs c rs (subst (Laid j 0 s []) e laid) some_byte

      passes : j.misfit (qs ++ c ∷ []) ≡ true → Passes q s unfit (suc k)
      passes f = passes_with unfit k (omega (arith, next, inside)) (ap (q.limit k) parts_are ∙ rw (ends_there, f))

      go : (y : Bool) → j.misfit (qs ++ c ∷ []) ≡ y → y ≡ false
      go true f = absurd (never (suc k) (omega (arith, next, inside)) (passes f))
      go false f = refl

  -- up to the place n each part fits
  module _ (other : (k : ℕ) (rs : List (Part L)) → r.limit k rs ≡ some unfit → ⊥) (n : ℕ) (upto : n ≤ length s) (fits : Fits n) where
    judged_bad : (k : ℕ) (rs : List (Part L)) → q.limit k rs ≡ some unfit → (ended j s k rs && j.misfit rs) ≡ true
    judged_bad k rs e = go (ended j s k rs && j.misfit rs) refl e
      where
        go : (y : Bool) → (ended j s k rs && j.misfit rs) ≡ y → cond y (some unfit) (r.limit k rs) ≡ some unfit → y ≡ true
        go true f g = refl
        go false f g = absurd (other k rs g)

    unfit-last : (k : ℕ) → k < n → LastBefore j (suc k) ps
        → (ended j s k (parts_before (suc k) ps) && j.misfit (parts_before (suc k) ps)) ≡ true → ⊥
    unfit-last k inside w bad = go (ltb (suc k) (past one.start one.text)) refl
      where
        one : Part L
        one = w.one

        b : past one.start one.text ≡ one.start + length one.text
        b = past-length one.start one.text

        m : ℕ
        m = suc k - one.start

        is_bad : (ended j s k (w.front ++ cut j (suc k) one ∷ []) && j.misfit (w.front ++ cut j (suc k) one ∷ [])) ≡ true
        is_bad = subst (λ (rs : List (Part L)). (ended j s k rs && j.misfit rs) ≡ true) w.is bad

        has_ended : (ended j s k (w.front ++ cut j (suc k) one ∷ []) ≡ true) × (j.misfit (w.front ++ cut j (suc k) one ∷ []) ≡ true)
        has_ended = both_true (ended j s k (w.front ++ cut j (suc k) one ∷ [])) (j.misfit (w.front ++ cut j (suc k) one ∷ [])) is_bad

        at_end : (eqb (past one.start (take m one.text)) (suc k) ≡ true) × (stops j (cut j (suc k) one) (drop (suc k) s) ≡ true)
        at_end =
            both_true (eqb (past one.start (take m one.text)) (suc k)) (stops j (cut j (suc k) one) (drop (suc k) s))
            (sym (ended-last j s k w.front (cut j (suc k) one)) ∙ has_ended.0)

        x : Split j 0 s [] w.front one w.back
        x = split_at j 0 s [] w.front one w.back (subst (Laid j 0 s []) w.all laid)

        goes : suc k < past one.start one.text → drop (suc k) s ≡ get_or one.text m 0 ∷ (drop (suc m) one.text ++ x.u)
        goes h =
            let f : suc k ≡ length x.p + m = omega (arith, past-length 0 x.p, x.at, w.begun) in
            ap₂ (λ (n : ℕ) (t : List ℕ). drop n t) f x.is ∙ drop-append-add x.p (one.text ++ x.u) m
            ∙ drop-append-le m one.text x.u (omega (arith, b))
            ∙ ap (λ (t : List ℕ). t ++ x.u) (drop-cons one.text m 0 (omega (arith, b, w.begun)))

        go : (y : Bool) → ltb (suc k) (past one.start one.text) ≡ y → ⊥
        go true f =
            let h = ltb-true (suc k) (past one.start one.text) f in
            let on = x.whole.inner m (omega (arith, w.begun)) (omega (arith, b, w.begun, h)) in
            true≢false (sym at_end.1 ∙ ap (λ (t : List ℕ). stops j (cut j (suc k) one) t) (goes h) ∙ rw on)
        go false f =
            let h = ltb-false (suc k) (past one.start one.text) f in
            let whole = cut-whole j (suc k) one h in
            let long = eqb-true (past one.start (take m one.text)) (suc k) at_end.0 in
            let same : past one.start (take m one.text) ≡ past one.start one.text = ap (λ (c : Part L). past c.start c.text) whole in
            let fine = fits w.front one w.back w.all (omega (arith, b, w.begun, long, same)) (omega arith) in
            true≢false (sym has_ended.1 ∙ ap (λ (c : Part L). j.misfit (w.front ++ c ∷ [])) whole ∙ fine)

    pub never-unfit : (k : ℕ) → k ≤ n → Passes q s unfit k → ⊥
    never-unfit zero h v = v
    never-unfit (suc k) h v =
        let bad = judged_bad k (parts_before (suc k) ps) (passed_with unfit k (omega arith) v) in
        ⊎_elim
        (λ e. true≢false (sym bad ∙ ap (λ (rs : List (Part L)). ended j s k rs && j.misfit rs) e))
        (λ w. unfit-last k (omega arith) w bad)
        (find-last j (suc k) 0 s [] ps laid)
