-- For the contracts of the reader's helpers: what each of them finds at a place, against what is left of the grammar there.
use Rattle.std.specs.Prelude.{ℕ, zero, suc, ◌+◌, ◌≤◌, ◌<◌, ◌≡◌, true, List, [], ◌∷◌, ◌++◌, length, get_or, Result, Ok, Err}
use Prim.Native.Char.{code}
use Rattle.grammar.specs.Grammar.{Part, Grammar, empty, nest, just}
use Rattle.grammar.specs.helpers.Derivative.{live, then}
use Rattle.grammar.specs.Reading as G
use Rattle.grammar.specs.Reading.{Verdict, refused}
use Rattle.grammar.specs.Refusals.{COMMENT_TOO_DEEP}
use Rattle.grammar.specs.helpers.Judge.{held, header}
use Rattle.grammar.specs.helpers.Checks.{ahead}
use Rattle.grammar.specs.helpers.Scans.{from}
use Rattle.octets.specs.Bytes.{blank?}
use Rattle.scans.specs.helpers.Runs.{run_end}
use Rattle.products.specs.declared.Products.{Products}
use Rattle.octets.specs.declared.Refusal.{Refusal}
use Rattle.octets.specs.Reading.{number_of, place_of}
use Rattle.products.specs.declared.Closed.{Closed}
use Rattle.products.specs.declared.Item.{Item}
use Rattle.products.specs.Counting.{Name, opened, closed, levels, product_count, outermost, deepest}
use Rattle.products.specs.Grammar.{content, products, level_limit, value, rules}

-- n levels of comments are open, and k follows the outermost one
abbrev pub within : Grammar Name → ℕ → Grammar Name
within k zero = k
within k (suc n) = then (nest (just (code "(") tt) (just (code ")") tt) opened closed content empty n) k

-- the parts of whole comments, and of text and pairs, where a level is open: h levels deep
pub record Enclosed (ps : List (Part Name)) (h : ℕ) : Type 0 where
  pub even : (n : ℕ) → levels (suc n) ps ≡ suc n
  pub inner : (n : ℕ) → outermost (suc n) ps ≡ 0
  pub depth : (n : ℕ) → deepest (suc n) ps ≡ suc n + h
  pub no_products : product_count ps ≡ 0

-- the parts of one comment: h levels deep
pub record Whole (ps : List (Part Name)) (h : ℕ) : Type 0 where
  pub even : (n : ℕ) → levels n ps ≡ n
  pub first : outermost 0 ps ≡ 1
  pub inner : (n : ℕ) → outermost (suc n) ps ≡ 0
  pub depth : (n : ℕ) → deepest n ps ≡ n + h
  pub no_products : product_count ps ≡ 0

-- where n levels are open, and a more may be opened: the parts so far, and what follows the outermost comment
pub record Place (n a : ℕ) : Type 0 where
  pub parts : List (Part Name)
  pub next : Grammar Name
  pub lives : live next ≡ true
  pub none_held : held next ≡ []
  pub counted : levels 0 parts ≡ n
  pub allowed : n + a ≡ level_limit

module _ (s : List ℕ) where
  -- the byte at i, as the part that opens a comment, and that closes one
  abbrev pub opening : ℕ → Part Name
  opening i = record { label = opened; start = i; text = get_or s i 0 ∷ [] }

  abbrev pub closing : ℕ → Part Name
  closing i = record { label = closed; start = i; text = get_or s i 0 ∷ [] }

  -- what the judgement comes to at a `(` that stands at i
  abbrev pub entered : (i n a : ℕ) → Place n a → Verdict Products
  entered i n zero p = refused COMMENT_TOO_DEEP i
  entered i n (suc a) p = from rules s (ahead (p.parts ++ opening i ∷ []) (within p.next (suc n))) (i + 1)

  -- the comment that opens at i ends before e
  pub record CommentRead (i a e h : ℕ) : Type 0 where
    pub parts : List (Part Name)
    pub whole : Whole parts h
    pub shallow : h ≤ a
    pub forward : i < e
    pub inside : e ≤ length s
    pub reads : (n : ℕ) (p : Place n a) → entered i n a p ≡ from rules s (ahead (p.parts ++ parts) (within p.next n)) e

  abbrev pub CommentAt : (i a : ℕ) → Result Closed Refusal → Type 0
  CommentAt i a (Ok c) = CommentRead i a c.end c.levels
  CommentAt i a (Err r) = (n : ℕ) (p : Place n a) → entered i n a p ≡ refused (number_of r) (place_of r)

  -- between i and e, where at least one level is open, stands what a comment may hold
  pub record Passed (i a e h : ℕ) : Type 0 where
    pub parts : List (Part Name)
    pub enclosed : Enclosed parts h
    pub shallow : h ≤ a
    pub ordered : i ≤ e
    pub inside : e ≤ length s
    pub reads : (n : ℕ) (p : Place (suc n) a) → from rules s (ahead p.parts (within p.next (suc n))) i
        ≡ from rules s (ahead (p.parts ++ parts) (within p.next (suc n))) e

  -- the content that stands at i ends at e, where its `)` stands
  pub record ContentRead (i a e h : ℕ) : Type 0 where
    pub passed : Passed i a e h
    pub within_it : e < length s
    pub ends : get_or s e 0 ≡ code ")"

  -- what is refused where at least one level is open
  abbrev pub RefusedWithin : (i a number place : ℕ) → Type 0
  RefusedWithin i a number place =
      (n : ℕ) (p : Place (suc n) a) → from rules s (ahead p.parts (within p.next (suc n))) i ≡ refused number place

  abbrev pub ContentAt : (i a : ℕ) → Result Closed Refusal → Type 0
  ContentAt i a (Ok c) = ContentRead i a c.end c.levels
  ContentAt i a (Err r) = RefusedWithin i a (number_of r) (place_of r)

  -- at i stands neither a `(` nor a `)`
  pub record Inside (i : ℕ) : Type 0 where
    pub at : i < length s
    pub no_open : get_or s i 0 ≡ code "(" → ⊥
    pub no_close : get_or s i 0 ≡ code ")" → ⊥

  -- text or a pair stands between i and e
  pub record PlainRead (i e : ℕ) : Type 0 where
    pub forward : i < e
    pub inside : e ≤ length s
    pub reads : (n a : ℕ) (p : Place (suc n) a)
        → from rules s (ahead p.parts (within p.next (suc n))) i ≡ from rules s (ahead p.parts (within p.next (suc n))) e

  abbrev pub PlainAt : ℕ → Result ℕ Refusal → Type 0
  PlainAt i (Ok e) = PlainRead i e
  PlainAt i (Err r) = (a : ℕ) → RefusedWithin i a (number_of r) (place_of r)

  -- ## Items

  -- what was found before the place i, where an item must stand
  pub record Found (i : ℕ) (f : Products) : Type 0 where
    pub parts : List (Part Name)
    pub reads : header rules s ≡ from rules s (ahead parts products) i
    pub even : levels 0 parts ≡ 0
    pub counts : value parts ≡ f
    pub inside : i ≤ length s
    pub few_products : f.products ≤ i
    pub few_comments : f.comments ≤ i

  -- a comment does not stand there
  pub record NoComment (i : ℕ) (f : Products) : Type 0 where
    pub found : Found i f
    pub at : i < length s
    pub no_open : get_or s i 0 ≡ code "(" → ⊥

  -- an item ends before e: it is the last one, or others follow, behind blanks if there are any
  pub record ItemRead (i e : ℕ) (f : Products) : Type 0 where
    pub forward : i < e
    pub inside : e ≤ length s
    pub ends : length s ≤ e → header rules s ≡ G.value f
    pub goes_on : e < length s → Found (run_end blank? s e) f

  abbrev pub ItemAt : ℕ → Result Item Refusal → Type 0
  ItemAt i (Ok x) = ItemRead i x.end x.found
  ItemAt i (Err r) = header rules s ≡ refused (number_of r) (place_of r)
