-- What parts behind parts come to: levels, products, outermost comments, the deepest level.
use Prim.Native.Nat.{ℕ, suc, ◌+◌, ◌≤◌, max}
use native.Mathlib.Omega.{arith}
use mathlib.Core.Path.{◌≡◌, refl, ap, ◌∙◌}
use mathlib.Core.List.{List, [], ◌∷◌, ◌++◌}
use Rattle.grammar.specs.Grammar.{Part}
use Rattle.products.specs.Counting.{Name, opened, closed, level_behind, levels, product_count, outermost, deepest}
use Rattle.products.specs.helpers.Scan.{Enclosed, Whole}

pub levels_append : (n : ℕ) (ps qs : List (Part Name)) → levels n (ps ++ qs) ≡ levels (levels n ps) qs
levels_append n [] qs = refl
levels_append n (c ∷ ps) qs = levels_append (level_behind c.label n) ps qs

pub product_append : (ps qs : List (Part Name)) → product_count (ps ++ qs) ≡ product_count ps + product_count qs
product_append [] qs = omega arith
product_append (c ∷ ps) qs = omega (arith, product_append ps qs)

pub outermost_append : (n : ℕ) (ps qs : List (Part Name)) → outermost n (ps ++ qs) ≡ outermost n ps + outermost (levels n ps) qs
outermost_append n [] qs = omega arith
outermost_append n (c ∷ ps) qs = omega (arith, outermost_append (level_behind c.label n) ps qs)

deepest-from : (n : ℕ) (ps : List (Part Name)) → n ≤ deepest n ps
deepest-from n [] = omega arith
deepest-from n (c ∷ ps) = omega arith

pub deepest_append : (n : ℕ) (ps qs : List (Part Name)) → deepest n (ps ++ qs) ≡ max (deepest n ps) (deepest (levels n ps) qs)
deepest_append n [] qs = omega (arith, deepest-from n qs)
deepest_append n (c ∷ ps) qs = omega (arith, deepest_append (level_behind c.label n) ps qs)

-- ## Comments

pub nothing-enclosed : Enclosed [] 0
nothing-enclosed = record { even = λ n. refl; inner = λ n. refl; depth = λ n. omega arith; no_products = refl }

-- a comment behind what a comment holds already
pub enclosed-more : (ps qs : List (Part Name)) (h k : ℕ) → Enclosed ps h → Whole qs k → Enclosed (ps ++ qs) (max h k)
enclosed-more ps qs h k a w = record {
  even = λ n. levels_append (suc n) ps qs ∙ ap (λ (m : ℕ). levels m qs) (a.even n) ∙ w.even (suc n);
  inner = λ n.
      outermost_append (suc n) ps qs ∙ ap (λ (m : ℕ). outermost (suc n) ps + outermost m qs) (a.even n) ∙ omega (arith, a.inner n, w.inner n);
  depth = λ n.
      deepest_append (suc n) ps qs ∙ ap (λ (m : ℕ). max (deepest (suc n) ps) (deepest m qs)) (a.even n) ∙ omega (arith, a.depth n, w.depth (suc n));
  no_products = product_append ps qs ∙ omega (arith, a.no_products, w.no_products);
}

-- what a comment holds already, behind a comment
pub enclosed-behind : (ps qs : List (Part Name)) (h k : ℕ) → Whole ps h → Enclosed qs k → Enclosed (ps ++ qs) (max h k)
enclosed-behind ps qs h k w a = record {
  even = λ n. levels_append (suc n) ps qs ∙ ap (λ (m : ℕ). levels m qs) (w.even (suc n)) ∙ a.even n;
  inner = λ n.
      outermost_append (suc n) ps qs ∙ ap (λ (m : ℕ). outermost (suc n) ps + outermost m qs) (w.even (suc n))
      ∙ omega (arith, w.inner n, a.inner n);
  depth = λ n.
      deepest_append (suc n) ps qs ∙ ap (λ (m : ℕ). max (deepest (suc n) ps) (deepest m qs)) (w.even (suc n))
      ∙ omega (arith, w.depth (suc n), a.depth n);
  no_products = product_append ps qs ∙ omega (arith, w.no_products, a.no_products);
}

-- a `(` and a `)` as parts
abbrev pub open_part : ℕ → List ℕ → Part Name
open_part i x = record { label = opened; start = i; text = x }

abbrev pub close_part : ℕ → List ℕ → Part Name
close_part i x = record { label = closed; start = i; text = x }

-- a comment with what it holds
module _ (i e : ℕ) (x y : List ℕ) (ps : List (Part Name)) (h : ℕ) (a : Enclosed ps h) where
  closed-behind : (n : ℕ) → levels (suc n) (ps ++ close_part e y ∷ []) ≡ n
  closed-behind n = levels_append (suc n) ps (close_part e y ∷ []) ∙ ap (λ (m : ℕ). levels m (close_part e y ∷ [])) (a.even n)

  none-outermost : (n : ℕ) → outermost (suc n) (ps ++ close_part e y ∷ []) ≡ 0
  none-outermost n = outermost_append (suc n) ps (close_part e y ∷ []) ∙ omega (arith, a.inner n)

  deep-behind : (n : ℕ) → deepest (suc n) (ps ++ close_part e y ∷ []) ≡ suc n + h
  deep-behind n =
      deepest_append (suc n) ps (close_part e y ∷ []) ∙ ap (λ (m : ℕ). max (deepest (suc n) ps) (deepest m (close_part e y ∷ []))) (a.even n)
      ∙ omega (arith, a.depth n)

  pub comment-whole : Whole (open_part i x ∷ (ps ++ close_part e y ∷ [])) (suc h)
  comment-whole = record {
    even = λ n. closed-behind n;
    first = omega (arith, none-outermost 0);
    inner = λ n. omega (arith, none-outermost (suc n));
    depth = λ n. omega (arith, deep-behind n);
    no_products = omega (arith, product_append ps (close_part e y ∷ []), a.no_products);
  }
