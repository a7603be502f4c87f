-- A well-formed text breaks no limit just where its deepest level is at most eight.
use Prim.Native.Nat.{ℕ, zero, suc, ◌-◌, ◌≤◌, ◌<◌, max}
use native.Mathlib.Omega.{arith}
use borrow.Author.Tests.{lt-ltb, le-ltb, ltb-true, ltb-false, leb-true, leb-false}
use mathlib.Core.Path.{◌≡◌, refl, sym, ap, subst, ◌∙◌}
use mathlib.Core.Logic.{◌↔◌}
use mathlib.Core.Bool.{Bool, true, false, cond}
use mathlib.Core.List.{List, [], ◌∷◌, ◌++◌}
use mathlib.Core.Option.{none, some}
use lib.Dec.{T, ltb, leb}
use lib.ListN.{length, take, drop, length-append, length-take, take-append-drop}
use Rattle.grammar.specs.Grammar as Items-of
use Rattle.grammar.specs.Grammar.{Part, just, Parses, Nest, out, opens, closes, past}
use Rattle.grammar.specs.Reading as G
use Rattle.grammar.specs.Reading.{deep, value_limit, parts_before, SoFar, Sound, Answers, reads}
use Rattle.grammar.specs.helpers.Derivative.{live, residual}
use Rattle.grammar.specs.helpers.Judge.{held, header}
use Rattle.grammar.proofs.Demands.{answered_exactly, unbroken_unpassed}
use Rattle.grammar.proofs.Derivative.{past_append, residual-means}
use Rattle.grammar.proofs.Deterministic.{deterministic_steady}
use Rattle.grammar.proofs.Exact.{so_far, of_live}
use Rattle.grammar.proofs.Held.{fresh-begun, residual-begun, held-before}
use Rattle.grammar.proofs.Longest.{past-length, live_of}
use Rattle.products.specs.declared.Products.{Products}
use Rattle.products.specs.Counting.{Name, opened, closed, level_behind, levels, deepest}
use Rattle.products.specs.Grammar.{content, products, level_limit, value, rules}
use Rattle.products.specs.Wording.{Kind, product-kind, comment-kind, item, Items, last, next}
use Rattle.products.proofs.Answer.{one_way}
use Rattle.products.proofs.Wording.{products-items, content-parts, token-parts, slash_parts}

-- ## Each part begins behind the one before it

abbrev In : ℕ → ℕ → List (Part Name) → Type 0
In i j [] = i ≤ j
In i j (c ∷ ps) = (i ≤ c.start) × In (suc c.start) j ps

in_order : (i j : ℕ) (ps : List (Part Name)) → In i j ps → i ≤ j
in_order i j [] w = w
in_order i j (c ∷ ps) w = omega (arith, w.0, in_order (suc c.start) j ps w.1)

in_from : (i j k : ℕ) (ps : List (Part Name)) → i ≤ j → In j k ps → In i k ps
in_from i j k [] h w = omega arith
in_from i j k (c ∷ ps) h w = (omega (arith, w.0), w.1)

in_append : (i j k : ℕ) (ps qs : List (Part Name)) → In i j ps → In j k qs → In i k (ps ++ qs)
in_append i j k [] qs v w = in_from i j k qs v w
in_append i j k (c ∷ ps) qs v w = (v.0, in_append (suc c.start) j k ps qs v.1 w)

past_up : (i : ℕ) (s : List ℕ) → i ≤ past i s
past_up i s = omega (arith, past-length i s)

nest_in : (n i : ℕ) (s : List ℕ) (ps : List (Part Name)) → Nest (just 40 tt) (just 41 tt) opened closed (Parses content) n i s ps → In i (past i s) ps
nest_in n i s ps out = omega arith
nest_in n i s ps (Items-of.item {n = m} b t u qs rs x r) =
    rw (content-parts i (b ∷ t) qs x, past_append (suc i) t u)
    (in_from i (past (suc i) t) (past (past (suc i) t) u) rs (omega (arith, past_up (suc i) t)) (nest_in (suc m) (past (suc i) t) u rs r))
nest_in n i s ps (opens {n = m} b u qs h r) = (omega arith, nest_in (suc (suc m)) (suc i) u qs r)
nest_in n i s ps (closes {n = m} b u qs h r) = (omega arith, nest_in m (suc i) u qs r)

item_in : (k : Kind) (i : ℕ) (s : List ℕ) (ps : List (Part Name)) → Parses (item k) i s ps → In i (past i s) ps
item_in product-kind i s ps m =
    let w = m.6.2 in
    let a = ap length m.4 ∙ length-append m.0 m.1 in
    let b = ap length w.4 ∙ length-append w.0 w.1 in
    let c = ap length w.6.1 in
    let long : suc i ≤ past i s = omega (arith, a, b, c, past-length i s) in
    rw (m.5, m.6.1, token-parts i m.0 m.6.0 w, slash_parts (past i m.0) m.1 m.3 m.7) (omega arith, long)
item_in comment-kind i s ps m =
    let n = m.7 in
    let j : past (past i m.0) n.0 ≡ suc i = ap (λ (l : List ℕ). past (past i l) n.0) m.6.2.1 ∙ ap (past (suc i)) n.6.0 in
    let e : past i s ≡ past (suc i) n.1 =
    ap (past i) (m.4 ∙ ap (λ (l : List ℕ). m.0 ++ l) n.4) ∙ past_append i m.0 (n.0 ++ n.1) ∙ past_append (past i m.0) n.0 n.1
    ∙ ap (λ (k : ℕ). past k n.1) j in
    let w = subst (λ (k : ℕ). In k (past k n.1) n.3) j (nest_in 1 (past (past i m.0) n.0) n.1 n.3 n.7) in
    rw (m.5, m.6.1, m.6.2.3, n.5, n.6.1, e) (omega arith, w)

items_in : {k : Kind} {i : ℕ} {s : List ℕ} {ps : List (Part Name)} → Items k i s ps → In i (past i s) ps
items_in {k} {i} {s} {ps} (last m) = item_in k i s ps m
items_in {k} {i} (next l t b u ps qs m w r) =
    let j = past (past i t) b in
    rw (past_append i t (b ++ u), past_append (past i t) b u)
    (in_append i (past i t) (past j u) ps qs (item_in k i t ps m) (in_from (past i t) j (past j u) qs (past_up (past i t) b) (items_in r)))

-- ## Levels open behind a byte, and the deepest level

none_before : (n i j : ℕ) (ps : List (Part Name)) → n ≤ i → In i j ps → parts_before n ps ≡ []
none_before n i j [] h w = refl
none_before n i j (c ∷ ps) h w =
    rw (le-ltb c.start n (omega (arith, w.0))) (none_before n (suc c.start) j ps (omega (arith, w.0)) w.1)

-- the part as far as it stands before n
abbrev begun : ℕ → Part Name → Part Name
begun n c = record { label = c.label; start = c.start; text = take (n - c.start) c.text }

levels-below : (n m i j : ℕ) (ps : List (Part Name)) → In i j ps → levels m (parts_before n ps) ≤ deepest m ps
levels-below n m i j [] w = omega arith
levels-below n m i j (c ∷ ps) w = go (ltb c.start n) refl (levels-below n (level_behind c.label m) (suc c.start) j ps w.1)
  where
    go : (x : Bool) → ltb c.start n ≡ x → levels (level_behind c.label m) (parts_before n ps) ≤ deepest (level_behind c.label m) ps
        → levels m (cond x (begun n c ∷ parts_before n ps) (parts_before n ps)) ≤ max m (deepest (level_behind c.label m) ps)
    go true e h = omega arith
    go false e h = rw (none_before n (suc c.start) j ps (omega (arith, ltb-false c.start n e)) w.1) (omega arith)

deepest-reached : (m i j : ℕ) (ps : List (Part Name)) → In i j ps → (n : ℕ) × (i ≤ n) × (n ≤ j) × (levels m (parts_before n ps) ≡ deepest m ps)
deepest-reached m i j [] w = (i, omega arith, w, refl)
deepest-reached m i j (c ∷ ps) w =
    let l = level_behind c.label m in
    go (leb m (deepest l ps)) refl (deepest-reached l (suc c.start) j ps w.1)
  where
    go : (x : Bool) → leb m (deepest (level_behind c.label m) ps) ≡ x
        → (n : ℕ) × (suc c.start ≤ n) × (n ≤ j) × (levels (level_behind c.label m) (parts_before n ps) ≡ deepest (level_behind c.label m) ps)
        → (n : ℕ) × (i ≤ n) × (n ≤ j) × (levels m (parts_before n (c ∷ ps)) ≡ max m (deepest (level_behind c.label m) ps))
    go true e (n, a, b, r) = (n, omega (arith, w.0), b, rw (lt-ltb c.start n a) (r ∙ omega (arith, leb-true m _ e)))
    go false e r =
        (i, omega arith, in_order i j (c ∷ ps) w, ap (levels m) (none_before i i j (c ∷ ps) (omega arith) w) ∙ omega (arith, leb-false m _ e))

-- ## The limit

-- the parts of a whole text, as far as they stand in a beginning of it
module _ (p t : List ℕ) (ps : List (Part Name)) (m : Parses products 0 (p ++ t) ps) where
  left : Parses (residual products 0 p) (past 0 p) t ps
  left = (residual-means products 0 p t ps).0 m

  lives : T (live (residual products 0 p))
  lives = live_of (residual products 0 p) (past 0 p) t ps left

  are-held : parts_before (length p) ps ≡ held (residual products 0 p)
  are-held =
      let e : length p ≡ past 0 p = omega (arith, past-length 0 p) in
      ap (λ (n : ℕ). parts_before n ps) e
      ∙ held-before (residual products 0 p) (past 0 p) t ps (residual-begun products 0 p (fresh-begun products 0 tt)) (deterministic_steady products tt one_way p).0 left

  begins_with : SoFar rules p (parts_before (length p) ps)
  begins_with = rw are-held (of_live rules tt (deterministic_steady products tt one_way) p lives)

  only_with : (qs : List (Part Name)) → SoFar rules p qs → qs ≡ parts_before (length p) ps
  only_with qs w = (so_far rules tt (deterministic_steady products tt one_way) p qs w).1 ∙ sym are-held

module _ (s : List ℕ) (ps : List (Part Name)) (m : Parses products 0 s ps) where
  in_text : In 0 (length s) ps
  in_text =
      let e : past 0 s ≡ length s = omega (arith, past-length 0 s) in
      subst (λ (j : ℕ). In 0 j ps) e (items_in ((products-items 0 s ps).0 m).1)

  split : (n : ℕ) → Parses products 0 (take n s ++ drop n s) ps
  split n = rw take-append-drop m

  taken : (k : ℕ) → k < length s → length (take (suc k) s) ≡ suc k
  taken k h = simp length-take (omega arith)

  pub sound : deepest 0 ps ≤ level_limit → Sound rules s (length s)
  sound h k l below (b, (qs, w, e), without) =
      let f = only_with (take (suc k) s) (drop (suc k) s) ps (split (suc k)) qs w ∙ ap (λ (n : ℕ). parts_before n ps) (taken k b) in
      let few : levels 0 qs ≤ level_limit = rw f (omega (arith, levels-below (suc k) 0 0 (length s) ps in_text)) in
      let g : none ≡ some l = sym (rw (le-ltb level_limit (levels 0 qs) few)) ∙ e in
      let z : ◌≡◌ {A = ℕ} 0 1 = cc in
      omega arith

  pub not_sound : level_limit < deepest 0 ps → Sound rules s (length s) → ⊥
  not_sound h w = let r = deepest-reached 0 0 (length s) ps in_text in go r.0 r.2 r.3
    where
      go : (n : ℕ) → n ≤ length s → levels 0 (parts_before n ps) ≡ deepest 0 ps → ⊥
      go zero b e = omega (arith, ap (levels 0) (none_before 0 0 (length s) ps (omega arith) in_text))
      go (suc k) b e =
          let p = take (suc k) s in
          let f : levels 0 (parts_before (length p) ps) ≡ deepest 0 ps = ap (λ (n : ℕ). levels 0 (parts_before n ps)) (taken k b) ∙ e in
          let g : level_limit < levels 0 (parts_before (length p) ps) = omega arith in
          unbroken_unpassed rules s (length s) w (omega arith) (suc k) deep b
          (parts_before (length p) ps, begins_with p (drop (suc k) s) ps (split (suc k)), rw (lt-ltb level_limit (levels 0 (parts_before (length p) ps)) g))

pub read-within : (s : List ℕ) (ps : List (Part Name)) → Parses products 0 s ps → length s ≤ value_limit
    → ((v : Products) × (header rules s ≡ G.value v)) ↔ (deepest 0 ps ≤ level_limit)
read-within s ps m short = (λ w. to ((answered_exactly rules tt tt one_way s (G.value w.0)).0 w.1), of)
  where
    limited : Sound rules s (length s) → (x : Bool) → ltb level_limit (deepest 0 ps) ≡ x → deepest 0 ps ≤ level_limit
    limited n true e = absurd (not_sound s ps m (ltb-true level_limit (deepest 0 ps) e) n)
    limited n false e = ltb-false level_limit (deepest 0 ps) e

    to : {v : Products} → Answers rules s (G.value v) → deepest 0 ps ≤ level_limit
    to (reads h q n r) = limited n (ltb level_limit (deepest 0 ps)) refl

    of : deepest 0 ps ≤ level_limit → (v : Products) × (header rules s ≡ G.value v)
    of h = (value ps, (answered_exactly rules tt tt one_way s (G.value (value ps))).1 (reads short m (sound s ps m h) refl))
