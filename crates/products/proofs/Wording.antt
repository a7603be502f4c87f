-- The grammar of products says what the wording says: items with blanks between.
use Prim.Native.Nat.{ℕ, suc, ◌+◌}
use native.Mathlib.Omega.{arith}
use mathlib.Core.Path.{◌≡◌, refl, sym, ap, subst, ◌∙◌}
use mathlib.Core.Logic.{◌⊎◌, inl, inr, ◌↔◌}
use mathlib.Core.List.{List, [], ◌∷◌, ◌++◌, append-nil, append_assoc, cons≢nil}
use Rattle.grammar.specs.Grammar as Items-of
use Rattle.grammar.specs.Grammar.{Part, Grammar, byte, ◌⨾◌, star, opt, plus, just, Parses, Many, none, more, Nest, out, opens, closes, past}
use Rattle.grammar.proofs.Derivative.{past_append}
use Rattle.grammar.proofs.Regroup.{regroup, star-more}
use Rattle.octets.specs.Classes.{TOKEN, BLANK, token}
use Rattle.products.specs.Counting.{Name, opened, closed, levels, product_count, outermost}
use Rattle.products.specs.Grammar as G
use Rattle.products.specs.Grammar.{slash_token, content, a_product, comment, further, group, products}
use Rattle.products.specs.Wording.{Kind, product-kind, comment-kind, is_kind, item, between, Items, last, next, how_many}
use Rattle.products.proofs.Counting.{product_append, outermost_append}

-- ## Items are a text of the grammar

-- what may follow a product, and an item
abbrev onward : Grammar Name
onward = further ⨾ G.more

abbrev behind : Kind → Grammar Name
behind product-kind = onward
behind comment-kind = opt a_product ⨾ onward

abbrev starting : Kind → Grammar Name
starting k = item k ⨾ behind k

module _ (i : ℕ) (s : List ℕ) (ps : List (Part Name)) where
  starting-products : (k : Kind) → Parses (starting k) i s ps → Parses products i s ps
  starting-products product-kind m =
      let n = regroup i s ps a_product further G.more m in
      (n.0, n.1, n.2, n.3, n.4, n.5, inl n.6, n.7)
  starting-products comment-kind m =
      let a = regroup (past i m.0) m.1 m.3 (opt a_product) further G.more m.7 in
      let n = regroup i s ps comment (opt a_product ⨾ further) G.more (m.0, m.1, m.2, m.3, m.4, m.5, m.6, a) in
      (n.0, n.1, n.2, n.3, n.4, n.5, inr n.6, n.7)

  -- a comment first
  comment-onward : Parses (starting comment-kind) i s ps → Parses onward i s ps
  comment-onward m =
      let n = regroup i s ps (comment ⨾ opt a_product) further G.more (regroup i s ps comment (opt a_product) onward m) in
      (n.0, n.1, n.2, n.3, n.4, n.5, star-more i n.0 n.2 (comment ⨾ opt a_product) (λ x. x) n.6, n.7)

  behind-onward : (k : Kind) → Parses onward i s ps → Parses (behind k) i s ps
  behind-onward product-kind m = m
  behind-onward comment-kind m = ([], s, [], ps, refl, refl, inl (refl, refl), m)

  -- no blank between
  glued : (k l : Kind) → Parses (between k l) i [] [] → Parses (starting l) i s ps → Parses (behind k) i s ps
  glued product-kind product-kind w m = absurd (never w.0 w.1 w.4 w.6)
    where
      never : (t u : List ℕ) → [] ≡ t ++ u → Parses {L = Name} (byte BLANK) i t w.2 → ⊥
      never [] u e x = cons≢nil (sym x.1)
      never (b ∷ t) u e x = cons≢nil (sym e)
  glued product-kind comment-kind w m = comment-onward m
  glued comment-kind product-kind w m = (m.0, m.1, m.2, m.3, m.4, m.5, inr m.6, m.7)
  glued comment-kind comment-kind w m = behind-onward comment-kind (comment-onward m)

module _ (i : ℕ) (b u : List ℕ) (ps : List (Part Name)) where
  -- blanks between
  spaced : (k : Kind) → Parses {L = Name} (plus (byte BLANK)) i b [] → Parses products (past i b) u ps → Parses (behind k) i (b ++ u) ps
  spaced k w m =
      let n = regroup i (b ++ u) ps (plus (byte BLANK)) group G.more (b, u, [], ps, refl, refl, w, m) in
      behind-onward i (b ++ u) ps k ([], b ++ u, [], ps, refl, refl, none, star-more i (b ++ u) ps (plus (byte BLANK) ⨾ group) (λ x. x) n)

blanks_cases : (i : ℕ) (s : List ℕ) (ps : List (Part Name)) → Many (Parses (byte BLANK)) i s ps → (s ≡ []) ⊎ Parses (plus (byte BLANK)) i s ps
blanks_cases i s ps none = inl refl
blanks_cases i s ps (more b t u qs rs x y) = inr (b ∷ t, u, qs, rs, refl, refl, x, y)

joined : (k l : Kind) (i : ℕ) (b u : List ℕ) (ps : List (Part Name)) → Parses (between k l) i b [] → Parses (starting l) (past i b) u ps → Parses (behind k) i (b ++ u) ps
joined k l i b u ps w m = go b (cases k l w) w m
  where
    cases : (k l : Kind) → Parses (between k l) i b [] → (b ≡ []) ⊎ Parses {L = Name} (plus (byte BLANK)) i b []
    cases product-kind product-kind x = inr x
    cases product-kind comment-kind x = blanks_cases i b [] x
    cases comment-kind l x = blanks_cases i b [] x

    go : (c : List ℕ) → (c ≡ []) ⊎ Parses {L = Name} (plus (byte BLANK)) i c [] → Parses (between k l) i c [] → Parses (starting l) (past i c) u ps → Parses (behind k) i (c ++ u) ps
    go c (inr x) w m = spaced i c u ps k x (starting-products (past i c) u ps l m)
    go [] (inl e) w m = glued i u ps k l w m
    go (a ∷ c) (inl e) w m = absurd (cons≢nil e)

items-starting : {k : Kind} {i : ℕ} {s : List ℕ} {ps : List (Part Name)} → Items k i s ps → Parses (starting k) i s ps
items-starting {k} {i} {s} {ps} (last m) = (s, [], ps, [], sym (append-nil s), sym (append-nil ps), m, behind-onward (past i s) [] [] k ([], [], [], [], refl, refl, none, none))
items-starting {k} {i} (next l t b u ps qs m w r) = (t, b ++ u, ps, qs, refl, refl, m, joined k l (past i t) b u qs w (items-starting r))

-- ## A text of the grammar is items

-- what follows an item of the kind k: nothing, or blanks and items
abbrev Tail : Kind → ℕ → List ℕ → List (Part Name) → Type 0
Tail k i s ps =
    ((s ≡ []) × (ps ≡ []))
    ⊎ ((l : Kind) × (b : List ℕ) × (u : List ℕ) × (s ≡ b ++ u) × Parses (between k l) i b [] × Items l (past i b) u ps)

attach : (k : Kind) (i : ℕ) (t u : List ℕ) (ps qs : List (Part Name)) → Parses (item k) i t ps → Tail k (past i t) u qs → Items k i (t ++ u) (ps ++ qs)
attach k i t u ps qs m (inl e) = rw (e.0, e.1, append-nil t, append-nil ps) (last m)
attach k i t u ps qs m (inr w) = subst (λ (v : List ℕ). Items k i (t ++ v) (ps ++ qs)) (sym w.3) (next w.0 t w.1 w.2 ps qs m w.4 w.5)

glue_comment : (k : Kind) (i : ℕ) (s : List ℕ) (ps : List (Part Name)) → Items comment-kind i s ps → Tail k i s ps
glue_comment product-kind i s ps m = inr (comment-kind, [], s, refl, none, m)
glue_comment comment-kind i s ps m = inr (comment-kind, [], s, refl, none, m)

glue_product : (i : ℕ) (s : List ℕ) (ps : List (Part Name)) → Items product-kind i s ps → Tail comment-kind i s ps
glue_product i s ps m = inr (product-kind, [], s, refl, none, m)

-- a place behind two texts
moved : (i : ℕ) (t u v : List ℕ) (qs : List (Part Name)) (k : Kind) → Tail k (past i (t ++ u)) v qs → Tail k (past (past i t) u) v qs
moved i t u v qs k = subst (λ (j : ℕ). Tail k j v qs) (past_append i t u)

-- a comment, with a product directly behind it if there is one
opt-items : (i : ℕ) (s : List ℕ) (ps : List (Part Name)) → Parses (comment ⨾ opt a_product) i s ps → (u : List ℕ) (qs : List (Part Name))
    → ((k : Kind) → Tail k (past i s) u qs) → Items comment-kind i (s ++ u) (ps ++ qs)
opt-items i s ps m u qs f =
    rw (m.4, m.5, append_assoc m.0 m.1 u, append_assoc m.2 m.3 qs)
    (go m.1 m.3 m.7 (λ k. moved i m.0 m.1 u qs k (subst (λ (v : List ℕ). Tail k (past i v) u qs) m.4 (f k))))
  where
    go : (v : List ℕ) (rs : List (Part Name)) → Parses (opt a_product) (past i m.0) v rs → ((k : Kind) → Tail k (past (past i m.0) v) u qs)
        → Items comment-kind i (m.0 ++ (v ++ u)) (m.2 ++ (rs ++ qs))
    go v rs (inl e) g =
        attach comment-kind i m.0 (v ++ u) m.2 (rs ++ qs) m.6
        (rw (e.0, e.1) (subst (λ (w : List ℕ). Tail comment-kind (past (past i m.0) w) u qs) e.0 (g comment-kind)))
    go v rs (inr x) g =
        attach comment-kind i m.0 (v ++ u) m.2 (rs ++ qs) m.6
        (glue_product (past i m.0) (v ++ u) (rs ++ qs) (attach product-kind (past i m.0) v u rs qs x (g product-kind)))

further_tail : (i : ℕ) (s : List ℕ) (ps : List (Part Name)) → Many (Parses (comment ⨾ opt a_product)) i s ps → (u : List ℕ) (qs : List (Part Name))
    → ((k : Kind) → Tail k (past i s) u qs) → (k : Kind) → Tail k i (s ++ u) (ps ++ qs)
further_tail i s ps none u qs f k = f k
further_tail i s ps (more b t v rs os x y) u qs f k =
    rw (append_assoc (b ∷ t) v u, append_assoc rs os qs)
    (glue_comment k i ((b ∷ t) ++ (v ++ u)) (rs ++ (os ++ qs))
    (opt-items i (b ∷ t) rs x (v ++ u) (os ++ qs) (λ j. further_tail (past (suc i) t) v os y u qs (λ l. moved (suc i) t v u qs l (f l)) j)))

product-group : (i : ℕ) (s : List ℕ) (ps : List (Part Name)) → Parses (a_product ⨾ further) i s ps → (u : List ℕ) (qs : List (Part Name))
    → ((k : Kind) → Tail k (past i s) u qs) → Items product-kind i (s ++ u) (ps ++ qs)
product-group i s ps m u qs f =
    rw (m.4, m.5, append_assoc m.0 m.1 u, append_assoc m.2 m.3 qs)
    (attach product-kind i m.0 (m.1 ++ u) m.2 (m.3 ++ qs) m.6
    (further_tail (past i m.0) m.1 m.3 m.7 u qs (λ k. moved i m.0 m.1 u qs k (subst (λ (v : List ℕ). Tail k (past i v) u qs) m.4 (f k))) product-kind))

comment-group : (i : ℕ) (s : List ℕ) (ps : List (Part Name)) → Parses ((comment ⨾ opt a_product) ⨾ further) i s ps → (u : List ℕ) (qs : List (Part Name))
    → ((k : Kind) → Tail k (past i s) u qs) → Items comment-kind i (s ++ u) (ps ++ qs)
comment-group i s ps m u qs f =
    rw (m.4, m.5, append_assoc m.0 m.1 u, append_assoc m.2 m.3 qs)
    (opt-items i m.0 m.2 m.6 (m.1 ++ u) (m.3 ++ qs)
    (further_tail (past i m.0) m.1 m.3 m.7 u qs (λ k. moved i m.0 m.1 u qs k (subst (λ (v : List ℕ). Tail k (past i v) u qs) m.4 (f k)))))

group-items : (i : ℕ) (s : List ℕ) (ps : List (Part Name)) → Parses group i s ps → (u : List ℕ) (qs : List (Part Name))
    → ((k : Kind) → Tail k (past i s) u qs) → (k : Kind) × Items k i (s ++ u) (ps ++ qs)
group-items i s ps (inl m) u qs f = (product-kind, product-group i s ps m u qs f)
group-items i s ps (inr m) u qs f = (comment-kind, comment-group i s ps (regroup i s ps comment (opt a_product) further m) u qs f)

blank-parts : (i : ℕ) (s : List ℕ) (ps : List (Part Name)) → Many (Parses (byte BLANK)) i s ps → ps ≡ []
blank-parts i s ps none = refl
blank-parts i s ps (more b t u qs rs x y) = rw (x.3, blank-parts (past (suc i) t) u rs y)

blanks-between : (k l : Kind) (i : ℕ) (s : List ℕ) (ps : List (Part Name)) → Parses (plus (byte BLANK)) i s ps → Parses (between k l) i s []
blanks-between k l i s ps m = by k l
  where
    blanks : Many (Parses {L = Name} (byte BLANK)) (past i m.0) m.1 []
    blanks = subst (Many (Parses (byte BLANK)) (past i m.0) m.1) (blank-parts (past i m.0) m.1 m.3 m.7) m.7

    some : Parses {L = Name} (plus (byte BLANK)) i s []
    some = (m.0, m.1, [], [], m.4, refl, (m.6.0, m.6.1, m.6.2, refl), blanks)

    any : Parses {L = Name} (star (byte BLANK)) i s []
    any = star-more i s [] (byte BLANK) (λ x. x) some

    by : (k l : Kind) → Parses (between k l) i s []
    by product-kind product-kind = some
    by product-kind comment-kind = any
    by comment-kind l = any

more_tail : (i : ℕ) (s : List ℕ) (ps : List (Part Name)) → Many (Parses (plus (byte BLANK) ⨾ group)) i s ps → (k : Kind) → Tail k i s ps
more_tail i s ps none k = inl (refl, refl)
more_tail i s ps (more b t u qs rs x y) k = go (λ l. more_tail (past (suc i) t) u rs y l)
  where
    no_parts : x.2 ≡ []
    no_parts = rw (x.6.5, x.6.6.3, blank-parts (past i x.6.0) x.6.1 x.6.3 x.6.7)

    go : ((l : Kind) → Tail l (past i (b ∷ t)) u rs) → Tail k i (b ∷ (t ++ u)) (qs ++ rs)
    go f =
        let n = group-items (past i x.0) x.1 x.3 x.7 u rs (λ l. moved i x.0 x.1 u rs l (subst (λ (v : List ℕ). Tail l (past i v) u rs) x.4 (f l))) in
        inr (
          n.0,
          x.0,
          x.1 ++ u,
          ap (λ (v : List ℕ). v ++ u) x.4 ∙ append_assoc x.0 x.1 u,
          blanks-between k n.0 i x.0 x.2 x.6,
          subst (λ (os : List (Part Name)). Items n.0 (past i x.0) (x.1 ++ u) os)
              (sym (ap (λ (os : List (Part Name)). os ++ rs) (x.5 ∙ ap (λ (os : List (Part Name)). os ++ x.3) no_parts))) n.1,
        )

pub products-items : (i : ℕ) (s : List ℕ) (ps : List (Part Name)) → Parses products i s ps ↔ ((k : Kind) × Items k i s ps)
products-items i s ps = (
  λ m.
      rw (m.4, m.5)
      (group-items i m.0 m.2 m.6 m.1 m.3 (more_tail (past i m.0) m.1 m.3 m.7)),
  λ w. starting-products i s ps w.0 (items-starting w.1),
)

-- ## How many items of each kind the parts are

-- the parts of an item
pub record ItemParts (k : Kind) (ps : List (Part Name)) : Type 0 where
  pub even : levels 0 ps ≡ 0
  pub are_products : product_count ps ≡ is_kind product-kind k
  pub are_comments : outermost 0 ps ≡ is_kind comment-kind k

pub content-parts : (i : ℕ) (s : List ℕ) (ps : List (Part Name)) → Parses content i s ps → ps ≡ []
content-parts i s ps (inl m) = m.3
content-parts i s ps (inr m) = rw (m.5, m.6.3, m.7.3)

-- behind the first `(`
nest-parts : (n i : ℕ) (s : List ℕ) (ps : List (Part Name)) → Nest (just 40 tt) (just 41 tt) opened closed (Parses content) n i s ps
    → (levels n ps ≡ 0) × (product_count ps ≡ 0) × (outermost n ps ≡ 0)
nest-parts n i s ps out = (refl, refl, refl)
nest-parts n i s ps (Items-of.item {n = m} b t u qs rs x r) = rw (content-parts i (b ∷ t) qs x) (nest-parts (suc m) (past (suc i) t) u rs r)
nest-parts n i s ps (opens {n = m} b u qs h r) =
    let w = nest-parts (suc (suc m)) (suc i) u qs r in
    (w.0, omega (arith, w.1), omega (arith, w.2))
nest-parts n i s ps (closes {n = m} b u qs h r) =
    let w = nest-parts m (suc i) u qs r in
    (w.0, omega (arith, w.1), omega (arith, w.2))

byte-parts : (i : ℕ) (s : List ℕ) (ps : List (Part Name)) → Many (Parses (byte TOKEN)) i s ps → ps ≡ []
byte-parts i s ps none = refl
byte-parts i s ps (more b t u qs rs x y) = rw (x.3, byte-parts (past (suc i) t) u rs y)

pub token-parts : (i : ℕ) (s : List ℕ) (ps : List (Part Name)) → Parses token i s ps → ps ≡ []
token-parts i s ps m = rw (m.5, m.6.3, byte-parts (past i m.0) m.1 m.3 m.7)

pub slash_parts : (i : ℕ) (s : List ℕ) (ps : List (Part Name)) → Parses slash_token i s ps → ps ≡ []
slash_parts i s ps (inl m) = m.1
slash_parts i s ps (inr m) = rw (m.5, m.6.3, token-parts (past i m.0) m.1 m.3 m.7)

pub item-parts : (k : Kind) (i : ℕ) (s : List ℕ) (ps : List (Part Name)) → Parses (item k) i s ps → ItemParts k ps
item-parts product-kind i s ps m =
    let e = token-parts i m.0 m.6.0 m.6.2 in
    let f = slash_parts (past i m.0) m.1 m.3 m.7 in
    rw (m.5, m.6.1, e, f) (record { even = refl; are_products = refl; are_comments = refl })
item-parts comment-kind i s ps m =
    let x = m.6 in
    let n = m.7 in
    let w = nest-parts 1 (past (past i m.0) n.0) n.1 n.3 n.7 in
    rw (m.5, x.1, x.2.3, n.5, n.6.1) (record { even = w.0; are_products = omega (arith, w.1); are_comments = omega (arith, w.2) })

-- the same of all items
pub record AllParts {k : Kind} {i : ℕ} {s : List ℕ} {ps : List (Part Name)} (w : Items k i s ps) : Type 0 where
  pub are_products : product_count ps ≡ how_many product-kind w
  pub are_comments : outermost 0 ps ≡ how_many comment-kind w

pub items-parts : {k : Kind} {i : ℕ} {s : List ℕ} {ps : List (Part Name)} (w : Items k i s ps) → AllParts w
items-parts {k} {i} {s} {ps} (last m) =
    let x = item-parts k i s ps m in
    record { are_products = x.are_products; are_comments = x.are_comments }
items-parts {k} {i} (next l t b u ps qs m w r) =
    let x = item-parts k i t ps m in
    let y = items-parts r in
    record {
      are_products = product_append ps qs ∙ omega (arith, x.are_products, y.are_products);
      are_comments = outermost_append 0 ps qs ∙ ap (λ (n : ℕ). outermost 0 ps + outermost n qs) x.even ∙ omega (arith, x.are_comments, y.are_comments);
    }
