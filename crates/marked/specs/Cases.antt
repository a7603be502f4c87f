-- The marked cases of document 01, "Both sides of the line": what each says of the definitions, and the table of them. Dates are read with
-- the present year 2019: "With 2019 the old results return." (document 02, request (ii))
use Rattle.std.specs.Prelude.{ℕ, ℤ, pos, negsuc, ◌≡◌, true, List, [], ◌∷◌}
use Prim.Native.String.{String}
use Rattle.grammar.specs.Comparing.{outcome, compare}
use Rattle.grammar.specs.Reading as Header
use Rattle.grammar.specs.Reading.{value}
use Rattle.grammar.specs.helpers.Judge.{header}
use Rattle.std.specs.declared.cmp.Ordering.TheVariants.{Less}
use Rattle.version.specs.Grammar as VersionGrammar
use Rattle.version.specs.Reading.{precedence}
use Rattle.date.specs.Reading as DateReading
use Rattle.qvalue.specs.Grammar as QvalueGrammar
use Rattle.url_equal.specs.Meaning.{pages, same_page}
use Rattle.framing.specs.Answer.{whole, refused}
use Rattle.framing.specs.Reading.{decode}
use Rattle.grammar.specs.Text.{bytes}
use Rattle.grammar.specs.Refusals.{MALFORMED, BODY_TOO_LARGE}

pub data Case : Type 0 where
  version_is : (text : String) (major minor : ℕ) → Case
  version_below : (text other : String) → Case
  date_is : (text : String) (year month day hour minute second : ℕ) (seconds : ℤ) → Case
  qvalue_is : (text : String) (thousandths : ℕ) → Case
  qvalue_refused : (text : String) (number place : ℕ) → Case
  urls_equal : (text other : String) → Case
  body_whole : (room : ℕ) (text : String) (taken length trailer-start trailer-length : ℕ) → Case
  body_refused : (room : ℕ) (text : String) (number place : ℕ) → Case

abbrev pub Holds : Case → Type 0
Holds (version_is t m n) = header VersionGrammar.rules (bytes t) ≡ value (record { major = m; minor = n })
Holds (version_below t u) =
    compare precedence (header VersionGrammar.rules (bytes t)) (header VersionGrammar.rules (bytes u)) ≡ outcome Less
Holds (date_is t y m d h n s z) =
    DateReading.reading 2019 (bytes t)
    ≡ value (record { fields = record { year = y; month = m; day = d; hour = h; minute = n; second = s }; seconds = z })
Holds (qvalue_is t q) = header QvalueGrammar.rules (bytes t) ≡ value q
Holds (qvalue_refused t n p) = header QvalueGrammar.rules (bytes t) ≡ Header.refused n p
Holds (urls_equal t u) = compare same_page (header pages (bytes t)) (header pages (bytes u)) ≡ outcome true
Holds (body_whole r t n k i l) =
    decode r (bytes t) ≡ whole (record { taken = n; length = k; trailer_start = i; trailer_length = l })
Holds (body_refused r t n p) = decode r (bytes t) ≡ refused n p

abbrev pub All : List Case → Type 0
All [] = Unit {0}
All (c ∷ cs) = Holds c × All cs

abbrev pub table : List Case
table =
    version_below "HTTP/2.4" "HTTP/2.13"
    ∷ version_below "HTTP/2.13" "HTTP/12.3"
    ∷ version_is "HTTP/01.1" 1 1
    ∷ date_is "Sun, 06 Nov 1994 08:49:37 GMT" 1994 11 6 8 49 37 (pos 784111777)
    ∷ date_is "Sunday, 06-Nov-94 08:49:37 GMT" 1994 11 6 8 49 37 (pos 784111777)
    ∷ date_is "Sun Nov  6 08:49:37 1994" 1994 11 6 8 49 37 (pos 784111777)
    ∷ date_is "Wed, 31 Dec 1969 23:59:59 GMT" 1969 12 31 23 59 59 (negsuc 0)
    ∷ qvalue_is "0." 0
    ∷ qvalue_refused "1.001" MALFORMED 4
    ∷ urls_equal "http://abc.com:80/~smith/home.html" "http://ABC.com:/%7esmith/home.html"
    ∷ body_whole 0 "0\r\n\r\n" 5 0 3 0
    ∷ body_refused 0 "1" BODY_TOO_LARGE 0
    ∷ []
