-- What the parts of a text of products and comments say: how many levels of comments are open, and the three numbers of the answer.
use Rattle.std.specs.Prelude.{ℕ, zero, suc, ◌+◌, max, List, [], ◌∷◌}
use Rattle.grammar.specs.Grammar.{Part}

-- The parts: a product's first token; each `(` and each `)` of a comment.
pub data Name : Type 0 where
  product opened closed : Name

-- how many levels are open behind a part, n of them being open before it
abbrev pub level_behind : Name → ℕ → ℕ
level_behind product n = n
level_behind opened n = suc n
-- never: a `)` that closes no level is no part
level_behind closed zero = zero
level_behind closed (suc n) = n

-- how many levels are open behind the parts
abbrev pub levels : ℕ → List (Part Name) → ℕ
levels n [] = n
levels n (c ∷ ps) = levels (level_behind c.label n) ps

abbrev pub is_product : Name → ℕ
is_product product = 1
is_product opened = 0
is_product closed = 0

-- how many of the parts are products
abbrev pub product_count : List (Part Name) → ℕ
product_count [] = 0
product_count (c ∷ ps) = is_product c.label + product_count ps

-- an outermost comment opens where no level is open
abbrev pub opens_outermost : Name → ℕ → ℕ
opens_outermost product n = 0
opens_outermost opened zero = 1
opens_outermost opened (suc n) = 0
opens_outermost closed n = 0

-- how many of the parts open an outermost comment
abbrev pub outermost : ℕ → List (Part Name) → ℕ
outermost n [] = 0
outermost n (c ∷ ps) = opens_outermost c.label n + outermost (level_behind c.label n) ps

-- the deepest level reached
abbrev pub deepest : ℕ → List (Part Name) → ℕ
deepest n [] = n
deepest n (c ∷ ps) = max n (deepest (level_behind c.label n) ps)
