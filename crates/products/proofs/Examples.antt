-- Examples of RFC 2616 3.8 and of document 01's rules, on the definitions.
use Prim.Native.Nat.{ℕ}
use Prim.Native.String.{String}
use mathlib.Core.Path.{◌≡◌, refl}
use mathlib.Core.List.{List, [], ◌∷◌}
use Rattle.grammar.specs.Text.{bytes}
use Rattle.grammar.specs.Reading.{value, refused}
use Rattle.grammar.specs.helpers.Judge.{header}
use Rattle.octets.specs.Bytes.{token?, blank?, escaped?}
use Rattle.products.specs.Grammar.{comment_text?, rules}

pub data Example : Type 0 where
  reads : (text : String) (products comments deepest : ℕ) → Example
  refuses : (text : String) (number place : ℕ) → Example

abbrev pub Holds : Example → Type 0
Holds (reads t p c d) = header rules (bytes t) ≡ value (record { products = p; comments = c; deepest = d })
Holds (refuses t n p) = header rules (bytes t) ≡ refused n p

abbrev pub All : List Example → Type 0
All [] = Unit {0}
All (c ∷ cs) = Holds c × All cs

pub examples : All
    (reads "CERN-LineMode/2.15 libwww/2.17b3" 2 0 0
    ∷ reads "Apache/0.8.4" 1 0 0
    ∷ reads "Mozilla/5.0 (X11; (deep) x) a/b" 2 1 2
    ∷ reads "(a)(b)" 0 2 1
    ∷ reads "a(\\)\\()b" 2 1 1
    ∷ reads "((((((((x))))))))" 0 1 8
    ∷ refuses "(((((((((x)))))))))" 12 8
    ∷ refuses "a/" 1 2
    ∷ refuses "a//b" 1 2
    ∷ refuses "(a" 1 2
    ∷ refuses "a)" 1 1
    ∷ refuses " a" 1 0
    ∷ refuses "a " 1 2
    ∷ refuses "" 1 0
    ∷ [])
unfolding token? blank? escaped? comment_text?
examples = (refl, (refl, (refl, (refl, (refl, (refl, (refl, (refl, (refl, (refl, (refl, (refl, (refl, (refl, tt))))))))))))))
