-- The reader of products and comments against the grammar: a product, a comment that is not within another, what follows each of them.
use Prim.Native.Nat.{ℕ, ◌+◌, ◌≤◌, ◌<◌, max}
use native.Mathlib.Omega.{arith}
use borrow.Author.Tests.{ne_eqb, eqb-true, ltb-true, ltb-false}
use mathlib.Core.Path.{◌≡◌, refl, sym, ap, subst, ◌∙◌}
use mathlib.Core.Bool.{Bool, true, false, ◌||◌, true≢false}
use mathlib.Core.List.{List, [], ◌∷◌, ◌++◌, append-nil}
use mathlib.Core.Option.{none}
use lib.Dec.{eqb, ltb}
use lib.ListN.{length, get_or}
use Rattle.grammar.specs.Grammar.{Part, Grammar, void, empty, byte, ◌⨾◌, star, part, rest, opt}
use Rattle.grammar.specs.helpers.Derivative.{nullable, deriv, ends}
use Rattle.grammar.specs.Reading as G
use Rattle.grammar.specs.Reading.{refused}
use Rattle.grammar.specs.helpers.Judge.{header}
use Rattle.grammar.specs.helpers.Checks.{ahead}
use Rattle.grammar.specs.helpers.Scans.{slice, from}
use Rattle.grammar.proofs.Ahead.{ahead-one}
use Rattle.grammar.proofs.Loop.{header-short}
use Rattle.grammar.proofs.Alike.{alike_at}
use Rattle.grammar.proofs.Repeats.{may_end}
use Rattle.grammar.proofs.Scans.{Run, same-judge, goes_on, part-plus, part-plus-none, first-is, first-not, first-none, ends-early}
use Rattle.grammar.proofs.Skips.{skip_run}
use Rattle.octets.specs.Bytes.{blank?, token?}
use Rattle.octets.specs.Classes.{TOKEN, BLANK, token}
use Rattle.octets.proofs.Bytes.{told-apart}
use Rattle.scans.specs.helpers.Runs.{run_end}
use Rattle.scans.proofs.Runs.{run-end-stop, run-end-next}
use Rattle.scans.proofs.Runs.{run_is}
use Rattle.products.specs.declared.Products.{Products}
use Rattle.products.specs.Counting.{Name, product, opened, levels, product_count, outermost, deepest}
use Rattle.products.specs.Grammar.{slash_token, a_product, further, more, products, value, rules}
use Rattle.products.specs.helpers.Scan.{within, Whole, Place, opening, entered, CommentRead, Found, NoComment, ItemRead}
use Rattle.products.proofs.Counting.{levels_append, product_append, outermost_append, deepest_append}
use Rattle.products.proofs.Comments.{quiet, opened_one}

-- what may follow a product, a comment, a product's first token
abbrev behind_product : Grammar Name
behind_product = further ⨾ more

abbrev behind_comment : Grammar Name
behind_comment = opt a_product ⨾ behind_product

abbrev behind_name : Grammar Name
behind_name = slash_token ⨾ behind_product

-- ## A byte, by its class

blank_no_token : (b : ℕ) → blank? b ≡ true → token? b ≡ false
unfolding blank? token?
blank_no_token b t = go (eqb b 32) (eqb b 9) refl refl t
  where
    go : (x y : Bool) → eqb b 32 ≡ x → eqb b 9 ≡ y → (x || y) ≡ true → token? b ≡ false
    go true y e f u = ap token? (eqb-true b 32 e)
    go false true e f u = ap token? (eqb-true b 9 f)
    go false false e f u = absurd (true≢false (sym u))

token_no_blank : (b : ℕ) → token? b ≡ true → blank? b ≡ false
token_no_blank b t = go (blank? b) refl
  where
    go : (x : Bool) → blank? b ≡ x → blank? b ≡ false
    go true e = absurd (true≢false (sym t ∙ blank_no_token b e))
    go false e = e

blank-no_open : (b : ℕ) → blank? b ≡ true → eqb b 40 ≡ false
unfolding blank?
blank-no_open b t = told-apart blank? b 40 t refl

token-no_open : (b : ℕ) → token? b ≡ true → eqb b 40 ≡ false
unfolding token?
token-no_open b t = told-apart token? b 40 t refl

token_no_slash : (b : ℕ) → token? b ≡ true → eqb b 47 ≡ false
unfolding token?
token_no_slash b t = told-apart token? b 47 t refl

module _ (i b : ℕ) where
  -- where an item must stand
  product-first : eqb b 40 ≡ false → deriv products i b ≡ deriv (part product token ⨾ behind_name) i b
  product-first e = go (token? b) refl
    where
      go : (x : Bool) → token? b ≡ x → deriv products i b ≡ deriv (part product token ⨾ behind_name) i b
      go true t = rw (t, e)
      go false t = rw (t, e)

  products-blank : blank? b ≡ true → deriv products i b ≡ void
  products-blank t = rw (blank_no_token b t, blank-no_open b t)

  open_first : b ≡ 40 → deriv products i b ≡ rest (record { label = opened; start = i; text = b ∷ [] }) empty ⨾ within behind_comment 1
  unfolding token?
  open_first e = rw e

  -- behind a product
  product-blank : blank? b ≡ true → deriv behind_product i b ≡ star (byte BLANK) ⨾ products
  product-blank t = rw (blank-no_open b t, t)

  product-other : token? b ≡ false → blank? b ≡ false → deriv behind_product i b ≡ deriv products i b
  product-other t f = go (eqb b 40) refl
    where
      go : (x : Bool) → eqb b 40 ≡ x → deriv behind_product i b ≡ deriv products i b
      go true e = rw (e, t, f)
      go false e = rw (e, t, f)

  product-token : token? b ≡ true → deriv behind_product i b ≡ void
  product-token t = rw (token-no_open b t, token_no_blank b t)

  -- behind a product's first token
  name-token : token? b ≡ true → deriv behind_name i b ≡ void
  name-token t = rw (token_no_slash b t, token-no_open b t, token_no_blank b t)

  name-other : eqb b 47 ≡ false → deriv behind_name i b ≡ deriv behind_product i b
  name-other e = rw e

  name_slash : b ≡ 47 → deriv behind_name i b ≡ byte TOKEN ⨾ (star (byte TOKEN) ⨾ behind_product)
  unfolding blank?
  name_slash e = rw e

  -- behind a comment
  comment-blank : blank? b ≡ true → deriv behind_comment i b ≡ star (byte BLANK) ⨾ products
  comment-blank t = rw (blank_no_token b t, blank-no_open b t, t)

  comment-other : blank? b ≡ false → deriv behind_comment i b ≡ deriv products i b
  comment-other f = go (eqb b 40) (token? b) refl refl
    where
      go : (x y : Bool) → eqb b 40 ≡ x → token? b ≡ y → deriv behind_comment i b ≡ deriv products i b
      go true true e t = absurd (true≢false (sym e ∙ token-no_open b t))
      go true false e t = rw (e, t, f)
      go false true e t = rw (e, t, f)
      go false false e t = rw (e, t, f)

-- ## The counts

-- with a product more, with a comment of h levels more
abbrev pub with_product : Products → Products
with_product f = record { products = f.products + 1; comments = f.comments; deepest = f.deepest }

abbrev pub with_comment : Products → ℕ → Products
with_comment f h = record { products = f.products; comments = f.comments + 1; deepest = max f.deepest h }

same-counts : {p q c d h k : ℕ} → p ≡ q → c ≡ d → h ≡ k
    → ◌≡◌ {A = Products} (record { products = p; comments = c; deepest = h }) (record { products = q; comments = d; deepest = k })
same-counts a b c = cc

module _ (cs : List (Part Name)) (f : Products) (even : levels 0 cs ≡ 0) (counts : value cs ≡ f) where
  had_products : product_count cs ≡ f.products
  had_products = ap (λ (v : Products). v.products) counts

  had_comments : outermost 0 cs ≡ f.comments
  had_comments = ap (λ (v : Products). v.comments) counts

  had_deepest : deepest 0 cs ≡ f.deepest
  had_deepest = ap (λ (v : Products). v.deepest) counts

  -- with a product more
  module _ (c : Part Name) (l : c.label ≡ product) where
    named-level : levels 0 (cs ++ c ∷ []) ≡ 0
    named-level = levels_append 0 cs (c ∷ []) ∙ rw (l, even)

    named-counts : value (cs ++ c ∷ []) ≡ with_product f
    named-counts = same-counts
        (product_append cs (c ∷ []) ∙ rw l (omega (arith, had_products)))
        (outermost_append 0 cs (c ∷ []) ∙ rw l (omega (arith, had_comments)))
        (deepest_append 0 cs (c ∷ []) ∙ rw (l, even) (omega (arith, had_deepest)))

  -- with a comment more
  module _ (qs : List (Part Name)) (h : ℕ) (w : Whole qs h) where
    whole-level : levels 0 (cs ++ qs) ≡ 0
    whole-level = levels_append 0 cs qs ∙ rw even (w.even 0)

    whole-counts : value (cs ++ qs) ≡ with_comment f h
    whole-counts = same-counts
        (product_append cs qs ∙ omega (arith, had_products, w.no_products))
        (outermost_append 0 cs qs ∙ rw even (omega (arith, had_comments, w.first)))
        (deepest_append 0 cs qs ∙ rw even (omega (arith, had_deepest, w.depth 0)))

module _ (s : List ℕ) where
  still : (cs : List (Part Name)) → levels 0 cs ≡ 0 → (i : ℕ) → rules.limit i cs ≡ none
  still cs e i = quiet i cs 0 e (omega arith)

  still_nil : (cs : List (Part Name)) → levels 0 cs ≡ 0 → (i : ℕ) → rules.limit i (cs ++ []) ≡ none
  still_nil cs e i = ap (rules.limit i) (append-nil cs) ∙ still cs e i

  -- ## Behind an item

  module _ (cs : List (Part Name)) (even : levels 0 cs ≡ 0) (g : Grammar Name) (e : ℕ)
      (blank : blank? (get_or s e 0) ≡ true → deriv g e (get_or s e 0) ≡ star (byte BLANK) ⨾ products)
      (other : blank? (get_or s e 0) ≡ false → deriv g e (get_or s e 0) ≡ deriv products e (get_or s e 0)) where
    next-item : e < length s → from rules s (ahead cs g) e ≡ from rules s (ahead cs products) (run_end blank? s e)
    next-item at = go (blank? (get_or s e 0)) refl
      where
        go : (x : Bool) → blank? (get_or s e 0) ≡ x → from rules s (ahead cs g) e ≡ from rules s (ahead cs products) (run_end blank? s e)
        go false f = alike_at rules s cs g products e at (other f) ∙ ap (from rules s (ahead cs products)) (sym (run-end-stop blank? s e at f))
        go true f =
            goes_on rules s cs g e (star (byte BLANK) ⨾ products) at (blank f) refl (still_nil cs even e)
            ∙ skip_run rules s cs BLANK products refl refl products-blank (e + 1) (run_end blank? s (e + 1)) (run_is blank? s (e + 1) (omega arith)) (λ n a b. still cs even n)
            ∙ ap (from rules s (ahead cs products)) (run-end-next blank? s e at f)

  -- an item with the parts qs, behind which g is left
  module _ (i : ℕ) (f : Products) (w : Found s i f) (qs : List (Part Name)) (through : Products) (even : levels 0 (w.parts ++ qs) ≡ 0) (counts : value (w.parts ++ qs) ≡ through)
      (e : ℕ) (forward : i < e) (inside : e ≤ length s) (few_products : through.products ≤ e) (few_comments : through.comments ≤ e)
      (g : Grammar Name) (reads : from rules s (ahead w.parts products) i ≡ from rules s (ahead (w.parts ++ qs) g) e)
      (last : nullable g ≡ true) (nothing : ends g e ≡ empty)
      (blank : blank? (get_or s e 0) ≡ true → deriv g e (get_or s e 0) ≡ star (byte BLANK) ⨾ products)
      (other : e < length s → blank? (get_or s e 0) ≡ false → deriv g e (get_or s e 0) ≡ deriv products e (get_or s e 0)) where
    item-read : ItemRead s i e through
    item-read = record {
      forward = forward;
      inside = inside;
      ends = λ at. w.reads ∙ reads ∙ may_end rules s (w.parts ++ qs) g e at last nothing ∙ ap G.value counts;
      goes_on = λ at. record {
        parts = w.parts ++ qs;
        reads = w.reads ∙ reads ∙ next-item (w.parts ++ qs) even g e blank (other at) at;
        even = even;
        counts = counts;
        inside = (run_is blank? s e inside).within;
        few_products = omega (arith, few_products, (run_is blank? s e inside).ordered);
        few_comments = omega (arith, few_comments, (run_is blank? s e inside).ordered);
      };
    }

  -- ## A product

  module _ (i : ℕ) (f : Products) (w : NoComment s i f) where
    abbrev cs : List (Part Name)
    cs = w.found.parts

    abbrev name : ℕ
    name = run_end token? s i

    token-run : Run token? s i (run_end token? s i)
    token-run = run_is token? s i (omega (arith, w.at))

    -- the product's first token
    abbrev named : Part Name
    named = record { label = product; start = i; text = slice s i (run_end token? s i) }

    here : from rules s (ahead cs products) i ≡ from rules s (ahead cs (part product token ⨾ behind_name)) i
    here = same-judge rules s cs products (part product token ⨾ behind_name) i (λ at. product-first i (get_or s i 0) (ne_eqb (get_or s i 0) 40 w.no_open)) refl refl

    pub no_product : name ≡ i → header rules s ≡ refused 1 i
    no_product e =
        w.found.reads ∙ here ∙ part-plus-none rules s cs product TOKEN behind_name refl refl name-token i (run_end token? s i) token-run (omega arith)

    module _ (some : name ≡ i → ⊥) where
      forward : i < run_end token? s i
      forward = omega (arith, token-run.ordered, some)

      name-reads : from rules s (ahead cs products) i ≡ from rules s (ahead (cs ++ named ∷ []) behind_name) (run_end token? s i)
      name-reads =
          here
          ∙ part-plus rules s cs product TOKEN behind_name refl refl name-token i (run_end token? s i) token-run forward
          (λ n a b.
          let c : Part Name = record { label = product; start = i; text = slice s i (n + 1) } in
          still (cs ++ c ∷ []) (named-level cs f w.found.even w.found.counts c refl) n)

      even : levels 0 (cs ++ named ∷ []) ≡ 0
      even = named-level cs f w.found.even w.found.counts named refl

      counts : value (cs ++ named ∷ []) ≡ with_product f
      counts = named-counts cs f w.found.even w.found.counts named refl

      -- a product that ends before e
      product-ends : (e : ℕ) → i < e → e ≤ length s → (e < length s → token? (get_or s e 0) ≡ false)
          → from rules s (ahead (cs ++ named ∷ []) behind_name) (run_end token? s i) ≡ from rules s (ahead (cs ++ named ∷ []) behind_product) e → ItemRead s i e (with_product f)
      product-ends e a b t r =
          item-read i f w.found (named ∷ []) (with_product f) even counts e a b (omega (arith, w.found.few_products)) (omega (arith, w.found.few_comments))
          behind_product (name-reads ∙ r) refl refl (product-blank e (get_or s e 0)) (λ at. product-other e (get_or s e 0) (t at))

      pub bare-product : (name < length s → get_or s name 0 ≡ 47 → ⊥) → ItemRead s i name (with_product f)
      bare-product n =
          product-ends (run_end token? s i) forward token-run.within token-run.stops
          (same-judge rules s (cs ++ named ∷ []) behind_name behind_product (run_end token? s i)
          (λ at. name-other (run_end token? s i) (get_or s (run_end token? s i) 0) (ne_eqb (get_or s (run_end token? s i) 0) 47 (n at))) refl refl)

      module _ (at : name < length s) (e : get_or s name 0 ≡ 47) where
        second : Run token? s (run_end token? s i + 1) (run_end token? s (run_end token? s i + 1))
        second = run_is token? s (run_end token? s i + 1) (omega arith)

        slash : from rules s (ahead (cs ++ named ∷ []) behind_name) (run_end token? s i)
            ≡ from rules s (ahead (cs ++ named ∷ []) (byte TOKEN ⨾ (star (byte TOKEN) ⨾ behind_product))) (run_end token? s i + 1)
        slash =
            goes_on rules s (cs ++ named ∷ []) behind_name (run_end token? s i) (byte TOKEN ⨾ (star (byte TOKEN) ⨾ behind_product)) at
            (name_slash (run_end token? s i) (get_or s (run_end token? s i) 0) e) refl (still_nil (cs ++ named ∷ []) even (run_end token? s i))

        pub no_second : run_end token? s (name + 1) ≡ name + 1 → header rules s ≡ refused 1 (run_end token? s (name + 1))
        no_second z = w.found.reads ∙ name-reads ∙ slash ∙ go (ltb (run_end token? s i + 1) (length s)) refl ∙ ap (refused 1) (sym z)
          where
            go : (x : Bool) → ltb (run_end token? s i + 1) (length s) ≡ x
                → from rules s (ahead (cs ++ named ∷ []) (byte TOKEN ⨾ (star (byte TOKEN) ⨾ behind_product))) (run_end token? s i + 1) ≡ refused 1 (run_end token? s i + 1)
            go true l =
                first-not rules s (cs ++ named ∷ []) TOKEN (star (byte TOKEN) ⨾ behind_product) refl (run_end token? s i + 1) (ltb-true (run_end token? s i + 1) (length s) l)
                (subst (λ (n : ℕ). n < length s → token? (get_or s n 0) ≡ false) z second.stops (ltb-true (run_end token? s i + 1) (length s) l))
            go false l =
                first-none rules s (cs ++ named ∷ []) TOKEN (star (byte TOKEN) ⨾ behind_product) refl (run_end token? s i + 1) (ltb-false (run_end token? s i + 1) (length s) l)

        module _ (more_bytes : run_end token? s (name + 1) ≡ name + 1 → ⊥) where
          longer : run_end token? s i + 1 < run_end token? s (run_end token? s i + 1)
          longer = omega (arith, second.ordered, more_bytes)

          there : run_end token? s i + 1 < length s
          there = omega (arith, longer, second.within)

          is-token : token? (get_or s (run_end token? s i + 1) 0) ≡ true
          is-token = second.inside (run_end token? s i + 1) (omega arith) longer

          pub slashed_product : ItemRead s i (run_end token? s (name + 1)) (with_product f)
          slashed_product =
              product-ends (run_end token? s (run_end token? s i + 1)) (omega (arith, forward, longer)) second.within second.stops
              (slash
              ∙ first-is rules s (cs ++ named ∷ []) TOKEN (star (byte TOKEN) ⨾ behind_product) refl (run_end token? s i + 1) there is-token (still_nil (cs ++ named ∷ []) even (run_end token? s i + 1))
              ∙ skip_run rules s (cs ++ named ∷ []) TOKEN behind_product refl refl product-token ((run_end token? s i + 1) + 1) (run_end token? s ((run_end token? s i + 1) + 1))
              (run_is token? s ((run_end token? s i + 1) + 1) (omega (arith, there))) (λ n a b. still (cs ++ named ∷ []) even n)
              ∙ ap (from rules s (ahead (cs ++ named ∷ []) behind_product)) (run-end-next token? s (run_end token? s i + 1) there is-token))

  -- ## A comment that is not within another

  module _ (i : ℕ) (f : Products) (w : Found s i f) where
    abbrev outer : Place 0 8
    outer = record { parts = w.parts; next = behind_comment; lives = refl; none_held = refl; counted = w.even; allowed = refl }

    module _ (at : i < length s) (o : get_or s i 0 ≡ 40) where
      enters : header rules s ≡ entered s i 0 8 outer
      enters =
          w.reads
          ∙ goes_on rules s w.parts products i (rest (opening s i) empty ⨾ within behind_comment 1) at (open_first i (get_or s i 0) o) refl
          (quiet i (w.parts ++ opening s i ∷ []) 1 (opened_one s i 0 w.parts w.even) (omega arith))
          ∙ ap (λ (g : Grammar Name). from rules s g (i + 1)) (sym (ahead-one w.parts (opening s i) (within behind_comment 1)))

      pub outer-refused : (x y : ℕ) → ((n : ℕ) (p : Place n 8) → entered s i n 8 p ≡ refused x y) → header rules s ≡ refused x y
      outer-refused x y r = enters ∙ r 0 outer

      pub outer-reads : (e h : ℕ) → CommentRead s i 8 e h → ItemRead s i e (with_comment f h)
      outer-reads e h c =
          item-read i f w c.parts (with_comment f h)
          (whole-level w.parts f w.even w.counts c.parts h c.whole) (whole-counts w.parts f w.even w.counts c.parts h c.whole)
          e c.forward c.inside (omega (arith, w.few_products, c.forward)) (omega (arith, w.few_comments, c.forward)) behind_comment
          (sym w.reads ∙ enters ∙ c.reads 0 outer) refl refl (comment-blank e (get_or s e 0)) (λ b. comment-other e (get_or s e 0))

    -- no byte is left
    pub no_item : length s ≤ i → header rules s ≡ refused 1 i
    no_item at = w.reads ∙ ends-early rules s w.parts products i at refl

  -- nothing was found before the first byte
  pub found_none : length s ≤ 8192 → Found s 0 (record { products = 0; comments = 0; deepest = 0 })
  found_none h = record {
    parts = [];
    reads = header-short rules s h;
    even = refl;
    counts = refl;
    inside = omega arith;
    few_products = omega arith;
    few_comments = omega arith;
  }
