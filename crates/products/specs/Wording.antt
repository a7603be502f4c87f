-- "one or more of product (token, optionally `/` token) and comment, with blanks between, at least one between two products": item by
-- item. proofs/Demands.antt proves that the grammar says the same.
use Rattle.std.specs.Prelude.{ℕ, suc, ◌+◌, max, ◌≡◌, List, [], ◌∷◌, ◌++◌, T}
use Prim.Native.Char.{code}
use Rattle.grammar.specs.Grammar.{Part, Grammar, byte, star, plus, Parses, past}
use Rattle.octets.specs.Bytes.{escaped?}
use Rattle.octets.specs.Classes.{BLANK}
use Rattle.products.specs.Counting.{Name}
use Rattle.products.specs.Grammar.{comment_text?, a_product, comment}

pub data Kind : Type 0 where
  product-kind comment-kind : Kind

abbrev pub item : Kind → Grammar Name
item product-kind = a_product
item comment-kind = comment

-- what stands between two items
abbrev pub between : Kind → Kind → Grammar Name
between product-kind product-kind = plus (byte BLANK)
between product-kind comment-kind = star (byte BLANK)
between comment-kind k = star (byte BLANK)

-- one or more items, the first of them of the kind k; blanks are no parts
pub data Items : Kind → ℕ → List ℕ → List (Part Name) → Type 0 where
  last : {k : Kind} {i : ℕ} {s : List ℕ} {ps : List (Part Name)} → Parses (item k) i s ps → Items k i s ps
  next : {k : Kind} {i : ℕ} (l : Kind) (t b u : List ℕ) (ps qs : List (Part Name)) → Parses (item k) i t ps
      → Parses (between k l) (past i t) b [] → Items l (past (past i t) b) u qs → Items k i (t ++ (b ++ u)) (ps ++ qs)

-- how many of the items are of the kind l
abbrev pub is_kind : Kind → Kind → ℕ
is_kind product-kind product-kind = 1
is_kind product-kind comment-kind = 0
is_kind comment-kind product-kind = 0
is_kind comment-kind comment-kind = 1

abbrev pub how_many : (l : Kind) {k : Kind} {i : ℕ} {s : List ℕ} {ps : List (Part Name)} → Items k i s ps → ℕ
how_many l {k} (last m) = is_kind l k
how_many l {k} (next j t b u ps qs m w r) = is_kind l k + how_many l r

-- ## How deep comments are

-- what a comment holds, "text, pairs or comments", and how deep the deepest of those comments is: 0 where there is none
pub data CommentHolds : ℕ → List ℕ → Type 0 where
  nothing : CommentHolds 0 []
  text : {d : ℕ} {s : List ℕ} (b : ℕ) → T (comment_text? b) → CommentHolds d s → CommentHolds d (b ∷ s)
  pair : {d : ℕ} {s : List ℕ} (b : ℕ) → T (escaped? b) → CommentHolds d s → CommentHolds d (code "\\" ∷ b ∷ s)
  a_comment : {c d : ℕ} {s t : List ℕ} → CommentHolds c s → CommentHolds d t → CommentHolds (max (suc c) d) (code "(" ∷ (s ++ code ")" ∷ t))

-- a comment is one level deeper than the deepest comment that it holds; a product has no level
abbrev pub Deep : Kind → ℕ → List ℕ → Type 0
Deep product-kind d s = d ≡ 0
Deep comment-kind d s = (c : ℕ) × (t : List ℕ) × (d ≡ suc c) × (s ≡ code "(" ∷ (t ++ code ")" ∷ [])) × CommentHolds c t

-- the deepest level of the items
abbrev pub Deepest : {k : Kind} {i : ℕ} {s : List ℕ} {ps : List (Part Name)} → Items k i s ps → ℕ → Type 0
Deepest {k} {i} {s} (last m) d = Deep k d s
Deepest {k} (next l t b u ps qs m w r) d = (c : ℕ) × (e : ℕ) × Deep k c t × Deepest r e × (d ≡ max c e)
