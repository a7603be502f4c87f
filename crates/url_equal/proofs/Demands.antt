-- The theorems of the equality of URLs: what a customer reads.
use Prim.Native.Nat.{ℕ}
use mathlib.Core.Path.{◌≡◌}
use mathlib.Core.Logic.{◌↔◌}
use mathlib.Core.Bool.{Bool, true}
use mathlib.Core.List.{List}
use Rattle.grammar.specs.Comparing.{outcome, refused_at}
use Rattle.grammar.specs.Reading.{Verdict, value, refused, Answers}
use Rattle.grammar.specs.helpers.Judge.{header}
use Rattle.grammar.proofs.Demands.{answered_exactly}
use Rattle.grammar.proofs.Comparing.{compare-read, compare_swap, compare_chain}
use Rattle.http_url.specs.declared.Url.{Url}
use Rattle.http_url.specs.Grammar.{rules}
use Rattle.http_url.proofs.Demands.{one_way}
use Rattle.url_equal.specs.Meaning.{Page, pages, same_page, equality}
use Rattle.url_equal.specs.Equality.{EqualUrls}
use Rattle.url_equal.specs.Places.{page_in, Placed}
use Rattle.url_equal.proofs.Meaning.{means}
use Rattle.url_equal.proofs.Pages.{one-page, page_either, page_chain}
use Rattle.url_equal.proofs.Equality.{one-page-compared, equal-compared}

-- As `reading` of url: for what a URL means.
pub meaning : (s : List ℕ) (v : Verdict Page) → (header pages s ≡ v) ↔ Answers pages s v
meaning = answered_exactly pages tt tt one_way

-- The parts that reading gives lie within the text, and what the URL means is found at their places.
pub places : (s : List ℕ) (u : Url) → header rules s ≡ value u → Placed s u × (header pages s ≡ value (page_in s u))
places = means

-- ## Equality

-- What `equal` answers: two URLs are equal just where both are read, and their hosts, ports, paths and queries are equal. "host ignores
-- case, an absent path equals `/`, and an escape of a letter, a digit or one of `- _ . ! ~ * ' ( )` equals that character. All else is
-- compared byte for byte, so `%2F` and `%2f` differ, and so do `/` and `/?`."
pub equal : (a b : List ℕ) → (equality a b ≡ outcome true) ↔ EqualUrls a b
equal = equal-compared

-- The same by what they mean: one page.
pub equal-pages : (a b : List ℕ) → (equality a b ≡ outcome true)
    ↔ ((p : Page) × (header pages a ≡ value p) × (header pages b ≡ value p))
equal-pages = one-page-compared

-- The test of two pages holds just where they are one page.
pub same_page-is : (p q : Page) → (same_page p q ≡ true) ↔ (p ≡ q)
same_page-is = one-page

-- "a refusal says which it was": the first URL's, or else the second's
pub first-refused : (a b : List ℕ) (n p : ℕ) → header pages a ≡ refused n p
    → equality a b ≡ refused_at 1 n p
first-refused a b n p e = rw e

pub second-refused : (a b : List ℕ) (q : Page) (n p : ℕ) → header pages a ≡ value q → header pages b ≡ refused n p
    → equality a b ≡ refused_at 2 n p
second-refused a b q n p e f = rw (e, f)

-- ## It behaves like equality: document 02, request (x)

-- Of readable URLs it always says whether they are equal.
pub decided : (a b : List ℕ) (p q : Page) → header pages a ≡ value p → header pages b ≡ value q → (t : Bool) × (equality a b ≡ outcome t)
decided a b p q e f = (same_page p q, compare-read same_page (header pages a) (header pages b) p q e f)

pub reflexive : (a : List ℕ) (p : Page) → header pages a ≡ value p → equality a a ≡ outcome true
reflexive a p e = (equal-pages a a).1 (p, e, e)

pub symmetric : (a b : List ℕ) (t : Bool) → equality a b ≡ outcome t → equality b a ≡ outcome t
symmetric a b t = compare_swap same_page same_page (header pages a) (header pages b) t page_either

pub transitive : (a b c : List ℕ) → equality a b ≡ outcome true → equality b c ≡ outcome true → equality a c ≡ outcome true
transitive a b c =
    compare_chain same_page same_page same_page (header pages a) (header pages b) (header pages c) true page_chain
