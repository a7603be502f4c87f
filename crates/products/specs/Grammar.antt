-- Products and comments: RFC 2616 3.8 and 2.2, as document 01 states them. Comments nest without bound here; the limit of eight levels is
-- refusal 12.
use Rattle.std.specs.Prelude.{ℕ, Bool, cond, ◌&&◌, ◌||◌, not, List, T, ltb, eqb}
use Prim.Native.Char.{code}
use Rattle.std.proofs.Math.Option.{Option, none, some}
use Rattle.grammar.specs.Grammar.{Class, Part, Grammar, byte, ◌⨾◌, ◌∣◌, star, part, opt, plus, just, nested}
use Rattle.grammar.specs.Classes.{one_of, range, ◌or◌, but}
use Rattle.grammar.specs.Reading.{Limit, deep, Rules}
use Rattle.grammar.specs.Text.{bytes}
use Rattle.octets.specs.Bytes.{within}
use Rattle.octets.specs.Classes.{BLANK, ESCAPED, token}
use Rattle.products.specs.declared.Products.{Products}
use Rattle.products.specs.Counting.{Name, product, opened, closed, levels, product_count, outermost, deepest}

-- a byte of a comment's text: HT, 32 to 126 without `(`, `)` and `\`, 128 to 255
unfoldable pub comment_text? : ℕ → Bool
comment_text? b = (eqb b 9 || (within 32 126 b || within 128 255 b)) && not (one_of (bytes "()\\") b)

pub comment-text-below : (b : ℕ) → T (comment_text? b) → T (ltb b 256)
unfolding comment_text?
comment-text-below b = (but (just 9 tt or range 32 126 tt or range 128 255 tt) (bytes "()\\") (code "a") tt).below b

pub comment-text-some : T (comment_text? (code "a"))
unfolding comment_text?
comment-text-some = tt

abbrev pub COMMENT_TEXT : Class
COMMENT_TEXT = record { has = comment_text?; below = comment-text-below; some = code "a"; holds = comment-text-some }

-- the slash of a product and the token behind it
abbrev pub slash_token : Grammar Name
slash_token = opt (byte (just (code "/") tt) ⨾ token)

abbrev pub a_product : Grammar Name
a_product = part product token ⨾ slash_token

-- what a comment holds beside comments: text, or a pair
abbrev pub content : Grammar Name
content = byte COMMENT_TEXT ∣ (byte (just (code "\\") tt) ⨾ byte ESCAPED)

abbrev pub comment : Grammar Name
comment = nested (just (code "(") tt) (just (code ")") tt) opened closed content

-- One or more of product and comment, "with blanks between, at least one between two products": no blank is needed beside a comment. So
-- the text falls into groups with blanks between them. In a group nothing stands between the items, and a product is the first item or
-- directly follows a comment. That this is the wording is `worded` of proofs/Demands.antt.
abbrev pub further : Grammar Name
further = star (comment ⨾ opt a_product)

abbrev pub group : Grammar Name
group = (a_product ⨾ further) ∣ (comment ⨾ opt a_product ⨾ further)

abbrev pub more : Grammar Name
more = star (plus (byte BLANK) ⨾ group)

abbrev pub products : Grammar Name
products = group ⨾ more

-- "A comment may hold comments, to eight levels": the ninth open `(` is refusal 12.
abbrev pub level_limit : ℕ
level_limit = 8

abbrev pub limit : ℕ → List (Part Name) → Option Limit
limit k ps = cond (ltb level_limit (levels 0 ps)) (some deep) none

-- "The answer counts products and outermost comments, and gives the deepest level."
abbrev pub value : List (Part Name) → Products
value ps = record { products = product_count ps; comments = outermost 0 ps; deepest = deepest 0 ps }

abbrev pub rules : Rules Name Products
rules = record { grammar = products; limit = limit; fault = λ ps. none; value = value }
