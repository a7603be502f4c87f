-- The theorems of products and comments: what a customer reads.
use Prim.Native.Nat.{ℕ, ◌≤◌}
use mathlib.Core.Path.{◌≡◌, sym, ap, subst, ◌∙◌}
use mathlib.Core.Logic.{◌↔◌}
use mathlib.Core.List.{List}
use lib.ListN.{length}
use Rattle.grammar.specs.Grammar.{Part, Parses}
use Rattle.grammar.specs.Reading as G
use Rattle.grammar.specs.Reading.{value_limit, Verdict, Answers}
use Rattle.grammar.specs.helpers.Judge.{header}
use Rattle.grammar.proofs.Demands.{answered_exactly}
use Rattle.products.specs.declared.Products.{Products}
use Rattle.products.specs.Counting.{Name}
use Rattle.products.specs.Grammar.{products, level_limit, rules}
use Rattle.products.specs.Wording.{Kind, product-kind, comment-kind, Items, how_many, Deepest}
use Rattle.products.proofs.Answer.{one_way, value-of-parts}
use Rattle.products.proofs.Wording.{products-items, items-parts}
use Rattle.products.proofs.Depth.{items-deepest}
use Rattle.products.proofs.Limit.{read-within}

-- What `read` answers (its promise is `header rules s`): the numbers of a well-formed text, or the refusal of the row that applies first,
-- and nothing else.
pub reading : (s : List ℕ) (v : Verdict Products) → (header rules s ≡ v) ↔ Answers rules s v
reading = answered_exactly rules tt tt one_way

-- "one or more of product (token, optionally `/` token) and comment, with blanks between, at least one between two products": the
-- grammar is this wording.
pub worded : (s : List ℕ) (ps : List (Part Name)) → Parses products 0 s ps ↔ ((k : Kind) × Items k 0 s ps)
worded = products-items 0

-- "The answer counts products and outermost comments, and gives the deepest level": of the items that the text is, in any way to read it
-- as items.
pub record Counts (v : Products) {k : Kind} {s : List ℕ} {ps : List (Part Name)} (w : Items k 0 s ps) : Type 0 where
  pub are_products : v.products ≡ how_many product-kind w
  pub are_outermost : v.comments ≡ how_many comment-kind w
  pub is_deepest : (d : ℕ) → (v.deepest ≡ d) ↔ Deepest w d

pub counts : (s : List ℕ) (ps : List (Part Name)) (v : Products) {k : Kind} (w : Items k 0 s ps) → header rules s ≡ G.value v → Counts v w
counts s ps v {k} w e =
    let u = value-of-parts s ps v ((worded s ps).1 (k, w)) e in
    let x = items-parts w in
    let f = ap (λ (n : Products). n.deepest) u in
    record {
      are_products = ap (λ (n : Products). n.products) u ∙ x.are_products;
      are_outermost = ap (λ (n : Products). n.comments) u ∙ x.are_comments;
      is_deepest = λ d. (λ g. (items-deepest w d).0 (sym f ∙ g), λ h. f ∙ (items-deepest w d).1 h);
    }

-- "A comment may hold comments, to eight levels": a well-formed text of at most 8,192 bytes is read just where its deepest level is at most
-- eight.
pub eight_levels : (s : List ℕ) (ps : List (Part Name)) {k : Kind} (w : Items k 0 s ps) (d : ℕ) → Deepest w d → length s ≤ value_limit
    → ((v : Products) × (header rules s ≡ G.value v)) ↔ (d ≤ level_limit)
eight_levels s ps {k} w d h short =
    subst (λ (n : ℕ). ((v : Products) × (header rules s ≡ G.value v)) ↔ (n ≤ level_limit)) ((items-deepest w d).1 h)
    (read-within s ps ((worded s ps).1 (k, w)) short)
