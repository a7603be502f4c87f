-- The deepest level, by the levels that are open, is that of the deepest comment.
use Prim.Native.Nat.{ℕ, suc, max}
use native.Mathlib.Omega.{arith}
use mathlib.Core.Path.{◌≡◌, refl, sym, ap, ap₂, subst, ◌∙◌}
use mathlib.Core.Logic.{inl, inr, ◌↔◌}
use mathlib.Core.Bool.{cond}
use mathlib.Core.List.{List, [], ◌∷◌, ◌++◌, append_assoc, head-eq_of_cons-eq, tail-eq_of_cons-eq}
use lib.Dec.{T, eqb, eqb→eq}
use Rattle.grammar.specs.Grammar as Items-of
use Rattle.grammar.specs.Grammar.{Part, just, Parses, Nest, out, opens, closes, past}
use Rattle.grammar.proofs.Derivative.{T_true}
use Rattle.octets.proofs.Bytes.{told-apart}
use Rattle.products.specs.Counting.{Name, opened, closed, deepest}
use Rattle.products.specs.Grammar.{comment_text?, content, comment}
use Rattle.products.specs.Wording.{Kind, product-kind, comment-kind, item, Items, last, next, CommentHolds, nothing, text, pair, a_comment, Deep, Deepest}
use Rattle.products.specs.helpers.Scan.{Enclosed}
use Rattle.products.proofs.Counting.{deepest_append, nothing-enclosed, enclosed-behind, open_part, close_part, comment-whole}
use Rattle.products.proofs.Wording.{content-parts, token-parts, slash_parts, item-parts}

-- ## A comment of the grammar holds what the wording says

-- at the beginning of the text n levels are open, and none at its end: what each of them holds, and its `)`
data Levels : ℕ → List ℕ → List (Part Name) → Type 0 where
  none_open : Levels 0 [] []
  level : {n : ℕ} {u : List ℕ} {rs : List (Part Name)} (d i : ℕ) (t x : List ℕ) (qs : List (Part Name)) → CommentHolds d t → Enclosed qs d
      → Levels n u rs → Levels (suc n) (t ++ 41 ∷ u) (qs ++ close_part i x ∷ rs)

with_item : (n i b : ℕ) (t u : List ℕ) (qs rs : List (Part Name)) → Parses content i (b ∷ t) qs → Levels (suc n) u rs
    → Levels (suc n) (b ∷ (t ++ u)) (qs ++ rs)
with_item n i b t u qs rs (inl m) (level d j v x os h e w) =
    rw (m.3, tail-eq_of_cons-eq m.1) (level d j (b ∷ v) x os (text b (subst (λ (a : ℕ). T (comment_text? a)) (sym (head-eq_of_cons-eq m.1)) m.2) h) e w)
with_item n i b t u qs rs (inr m) (level d j v x os h e w) =
    let y = m.7.0 in
    let f : b ∷ t ≡ 92 ∷ y ∷ [] =
    m.4 ∙ ap₂ (λ (k l : List ℕ). k ++ l) m.6.1 m.7.1 ∙ ap (λ (a : ℕ). a ∷ y ∷ []) (eqb→eq m.6.0 92 m.6.2) in
    let g : qs ≡ [] = content-parts i (b ∷ t) qs (inr m) in
    subst (λ (l : List ℕ). Levels (suc n) (l ++ u) (qs ++ rs)) (sym f) (rw g (level d j (92 ∷ y ∷ v) x os (pair y m.7.2 h) e w))

with_comment : (n i : ℕ) (x u : List ℕ) (ps : List (Part Name)) → Levels (suc (suc n)) u ps → Levels (suc n) (40 ∷ u) (open_part i x ∷ ps)
with_comment n i x u ps (level d j t y qs h e (level c k v z os g f w)) =
    let ps = open_part i x ∷ (qs ++ close_part j y ∷ []) in
    let deep = enclosed-behind ps os (suc d) c (comment-whole i j x y qs d e) f in
    simp append_assoc at (level (max (suc d) c) k (40 ∷ (t ++ 41 ∷ v)) z (ps ++ os) (a_comment h g) deep w)

stacked : (n i : ℕ) (s : List ℕ) (ps : List (Part Name)) → Nest (just 40 tt) (just 41 tt) opened closed (Parses content) n i s ps → Levels n s ps
stacked n i s ps out = none_open
stacked n i s ps (Items-of.item {n = m} b t u qs rs x r) = with_item m i b t u qs rs x (stacked (suc m) (past (suc i) t) u rs r)
stacked n i s ps (opens {n = m} b u qs h r) = rw (eqb→eq b 40 h) (with_comment m i (40 ∷ []) u qs (stacked (suc (suc m)) (suc i) u qs r))
stacked n i s ps (closes {n = m} b u qs h r) = rw (eqb→eq b 41 h) (level 0 i [] (41 ∷ []) [] nothing nothing-enclosed (stacked m (suc i) u qs r))

comment-depth : (i : ℕ) (s : List ℕ) (ps : List (Part Name)) → Parses comment i s ps → (d : ℕ) × Deep comment-kind d s × (deepest 0 ps ≡ d)
comment-depth i s ps m =
    let n = m.7 in
    let e : s ≡ 40 ∷ n.1 =
    m.4 ∙ ap₂ (λ (k l : List ℕ). k ++ l) (m.6.2.1 ∙ ap (λ (b : ℕ). b ∷ []) (eqb→eq m.6.2.0 40 m.6.2.2)) (n.4 ∙ ap (λ (l : List ℕ). l ++ n.1) n.6.0) in
    let f : ps ≡ open_part i m.0 ∷ n.3 =
    m.5 ∙ ap₂ (λ (k l : List (Part Name)). k ++ l) (m.6.1 ∙ ap (λ (l : List (Part Name)). open_part i m.0 ∷ l) m.6.2.3)
    (n.5 ∙ ap (λ (l : List (Part Name)). l ++ n.3) n.6.1) in
    rw (e, f) (go i m.0 n.1 n.3 (stacked 1 (past (past i m.0) n.0) n.1 n.3 n.7))
  where
    go : (i : ℕ) (x u : List ℕ) (qs : List (Part Name)) → Levels 1 u qs
        → (d : ℕ) × Deep comment-kind d (40 ∷ u) × (deepest 0 (open_part i x ∷ qs) ≡ d)
    go i x u qs (level d j t y os h e none_open) = (suc d, (d, t, refl, refl, h), omega (arith, (comment-whole i j x y os d e).depth 0))

-- ## A comment is deep in one way only

-- what a byte begins within a comment: its end, text, a pair, a comment
begins : ℕ → ℕ
begins b = cond (eqb b 41) 0 (cond (eqb b 92) 2 (cond (eqb b 40) 3 1))

begins-text : (b : ℕ) → T (comment_text? b) → begins b ≡ 1
unfolding begins comment_text?
begins-text b h =
    let t = T_true (comment_text? b) h in
    rw (told-apart comment_text? b 41 t refl, told-apart comment_text? b 92 t refl, told-apart comment_text? b 40 t refl)

module _ (a b : ℕ) {m n : ℕ} (s t : List ℕ) where
  clash : begins a ≡ m → begins b ≡ n → a ∷ s ≡ b ∷ t → m ≡ n
  clash e f g = sym e ∙ ap begins (head-eq_of_cons-eq g) ∙ f

close-begins : begins 41 ≡ 0
unfolding begins
close-begins = refl

pair-begins : begins 92 ≡ 2
unfolding begins
pair-begins = refl

open_begins : begins 40 ≡ 3
unfolding begins
open_begins = refl

one-depth : {c d : ℕ} {s t : List ℕ} → CommentHolds c s → CommentHolds d t → (u v : List ℕ) → s ++ 41 ∷ u ≡ t ++ 41 ∷ v → (c ≡ d) × (u ≡ v)
one-depth nothing nothing u v e = (refl, tail-eq_of_cons-eq e)
one-depth nothing (text b k h) u v e = absurd (omega (arith, clash 41 b _ _ close-begins (begins-text b k) e))
one-depth nothing (pair b k h) u v e = absurd (omega (arith, clash 41 92 _ _ close-begins pair-begins e))
one-depth nothing (a_comment h g) u v e = absurd (omega (arith, clash 41 40 _ _ close-begins open_begins e))
one-depth (text a j f) nothing u v e = absurd (omega (arith, clash a 41 _ _ (begins-text a j) close-begins e))
one-depth (text a j f) (text b k h) u v e = one-depth f h u v (tail-eq_of_cons-eq e)
one-depth (text a j f) (pair b k h) u v e = absurd (omega (arith, clash a 92 _ _ (begins-text a j) pair-begins e))
one-depth (text a j f) (a_comment h g) u v e = absurd (omega (arith, clash a 40 _ _ (begins-text a j) open_begins e))
one-depth (pair a j f) nothing u v e = absurd (omega (arith, clash 92 41 _ _ pair-begins close-begins e))
one-depth (pair a j f) (text b k h) u v e = absurd (omega (arith, clash 92 b _ _ pair-begins (begins-text b k) e))
one-depth (pair a j f) (pair b k h) u v e = one-depth f h u v (tail-eq_of_cons-eq (tail-eq_of_cons-eq e))
one-depth (pair a j f) (a_comment h g) u v e = absurd (omega (arith, clash 92 40 _ _ pair-begins open_begins e))
one-depth (a_comment f l) nothing u v e = absurd (omega (arith, clash 40 41 _ _ open_begins close-begins e))
one-depth (a_comment f l) (text b k h) u v e = absurd (omega (arith, clash 40 b _ _ open_begins (begins-text b k) e))
one-depth (a_comment f l) (pair b k h) u v e = absurd (omega (arith, clash 40 92 _ _ open_begins pair-begins e))
one-depth (a_comment {s = s} {t = x} f l) (a_comment {s = t} {t = y} h g) u v e =
    let i = one-depth f h (x ++ 41 ∷ u) (y ++ 41 ∷ v) (sym (append_assoc s (41 ∷ x) (41 ∷ u)) ∙ tail-eq_of_cons-eq e ∙ append_assoc t (41 ∷ y) (41 ∷ v)) in
    let j = one-depth l g u v i.1 in
    (ap₂ (λ (m n : ℕ). max (suc m) n) i.0 j.0, j.1)

one-deep : (k : Kind) (s : List ℕ) (c d : ℕ) → Deep k c s → Deep k d s → c ≡ d
one-deep product-kind s c d v w = v ∙ sym w
one-deep comment-kind s c d v w = v.2 ∙ ap suc (one-depth v.4 w.4 [] [] (tail-eq_of_cons-eq (sym v.3 ∙ w.3))).0 ∙ sym w.2

-- ## The items

item-depth : (k : Kind) (i : ℕ) (s : List ℕ) (ps : List (Part Name)) → Parses (item k) i s ps → Deep k (deepest 0 ps) s
item-depth product-kind i s ps m =
    rw (m.5, m.6.1, token-parts i m.0 m.6.0 m.6.2, slash_parts (past i m.0) m.1 m.3 m.7) refl
item-depth comment-kind i s ps m =
    let w = comment-depth i s ps m in
    rw w.2 w.1

items-depth : {k : Kind} {i : ℕ} {s : List ℕ} {ps : List (Part Name)} (w : Items k i s ps) → Deepest w (deepest 0 ps)
items-depth {k} {i} {s} {ps} (last m) = item-depth k i s ps m
items-depth {k} {i} (next l t b u ps qs m w r) = (
  deepest 0 ps,
  deepest 0 qs,
  item-depth k i t ps m,
  items-depth r,
  deepest_append 0 ps qs ∙ ap (λ (n : ℕ). max (deepest 0 ps) (deepest n qs)) (item-parts k i t ps m).even,
)

one-deepest : {k : Kind} {i : ℕ} {s : List ℕ} {ps : List (Part Name)} (w : Items k i s ps) (c d : ℕ) → Deepest w c → Deepest w d → c ≡ d
one-deepest {k} {i} {s} (last m) c d x y = one-deep k s c d x y
one-deepest {k} (next l t b u ps qs m w r) c d x y =
    x.4 ∙ ap₂ max (one-deep k t x.0 y.0 x.2 y.2) (one-deepest r x.1 y.1 x.3 y.3) ∙ sym y.4

pub items-deepest : {k : Kind} {i : ℕ} {s : List ℕ} {ps : List (Part Name)} (w : Items k i s ps) (d : ℕ) → (deepest 0 ps ≡ d) ↔ Deepest w d
items-deepest {ps = ps} w d = (λ e. subst (Deepest w) e (items-depth w), λ h. one-deepest w (deepest 0 ps) d (items-depth w) h)
