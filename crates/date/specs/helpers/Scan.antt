-- For the contracts of the reader's helpers. The present year is y.
use Rattle.std.specs.Prelude.{ℕ, zero, suc, ◌+◌, ◌≤◌, ◌<◌, ◌≡◌, cond, List, [], ◌∷◌, ◌++◌, T, ltb, eqb, length, drop}
use Rattle.std.specs.Prelude.{Option, Some, None, Result, Ok, Err}
use Rattle.grammar.specs.Grammar.{Part, Grammar, lit, bytes?}
use Rattle.grammar.specs.Reading.{Verdict, refused}
use Rattle.grammar.specs.Refusals.{MALFORMED}
use Rattle.grammar.specs.Text.{bytes}
use Rattle.grammar.specs.helpers.Judge.{header, unless_fault}
use Rattle.grammar.specs.helpers.Checks.{ahead}
use Rattle.grammar.specs.helpers.Scans.{slice, from}
use Rattle.octets.specs.Numbers.{number}
use Rattle.calendar.specs.declared.Fields.{Fields}
use Rattle.date.specs.declared.Date.{Date}
use Rattle.date.specs.declared.Places.{Places}
use Rattle.date.specs.declared.YearPlace.{YearPlace}
use Rattle.date.specs.declared.YearPlace.TheVariants.{Two, Four}
use Rattle.date.specs.Years.{PresentYear, full_year}
use Rattle.date.specs.Grammar.{Name, weekday, rfc850, forms, fault_of, value_of, rules}
use Rattle.date.specs.Names.{month_names, first_name}
use Rattle.octets.specs.helpers.Shapes.{fitting}
use Rattle.date.specs.helpers.Shapes.{longest}

-- the rest of the long name of a day
abbrev pub rest_of : ℕ → List ℕ
rest_of zero = bytes "day"
rest_of (suc zero) = bytes "sday"
rest_of (suc (suc zero)) = bytes "nesday"
rest_of (suc (suc (suc zero))) = bytes "rsday"
rest_of (suc (suc (suc (suc zero)))) = bytes "day"
rest_of (suc (suc (suc (suc (suc zero))))) = bytes "urday"
-- Sunday: no day behind it is asked for
rest_of (suc (suc (suc (suc (suc (suc k)))))) = bytes "day"

abbrev pub rest_bytes : (k : ℕ) → T (bytes? (rest_of k))
rest_bytes zero = tt
rest_bytes (suc zero) = tt
rest_bytes (suc (suc zero)) = tt
rest_bytes (suc (suc (suc zero))) = tt
rest_bytes (suc (suc (suc (suc zero)))) = tt
rest_bytes (suc (suc (suc (suc (suc zero))))) = tt
rest_bytes (suc (suc (suc (suc (suc (suc k)))))) = tt

-- the shape of what stands between the short name of a day and the month, in the form of RFC 850
abbrev pub rfc850_head : ℕ → List ℕ
rfc850_head k = rest_of k ++ bytes ", 00-"

abbrev pub day_part : ℕ → Part Name
day_part k = record { label = weekday k; start = 3; text = [] }

-- the day k is named, and the answer is what g finds from the place 3 on
pub record Goes (y : ℕ) (g : Grammar Name) (s : List ℕ) (k : ℕ) : Type 0 where
  pub within : PresentYear y
  pub short : length s ≤ 8192
  pub reads : header (rules y) s ≡ from (rules y) s (ahead (day_part k ∷ []) g) 3

abbrev pub AfterDay : ℕ → List ℕ → ℕ → Type 0
AfterDay y s k = Goes y (forms (rest_of k) (rest_bytes k)) s k

abbrev pub AtRfc850 : ℕ → List ℕ → ℕ → Type 0
AtRfc850 y s k = Goes y (lit (rest_of k) (rest_bytes k) rfc850) s k

-- a number that is 0 where there is none
abbrev pub numbered : ℕ → Option ℕ
numbered zero = None
numbered (suc k) = Some (suc k)

-- where a month has the number m, or is none with m = 0, and n bytes of a shape of the length l stand behind it
abbrev pub tail_of : (s : List ℕ) (at l m n : ℕ) → Result ℕ ℕ
tail_of s at l m n =
    cond (eqb m 0) (Err (at + longest month_names (drop at s)))
    (cond (ltb n l) (Err (at + 3 + n)) (cond (ltb (at + 3 + n) (length s)) (Err (at + 3 + n)) (Ok m)))

-- a month at the place `at`, a text of that shape behind it, and the end
unfoldable pub month_then : (shape s : List ℕ) (at : ℕ) → Result ℕ ℕ
month_then w s at = tail_of s at (length w) (first_name 1 month_names (drop at s)) (fitting w (drop (at + 3) s))

-- the answer to a well-formed date
unfoldable pub judged : (named : ℕ) → Fields → Verdict Date
judged k f = unless_fault (fault_of k f) (value_of f)

-- a year of two digits or of four
abbrev pub year_from : (y : ℕ) (s : List ℕ) → YearPlace → ℕ
year_from y s (Two at) = full_year y (number (slice s at (at + 2)))
year_from y s (Four at) = number (slice s at (at + 4))

abbrev pub YearInside : List ℕ → YearPlace → Type 0
YearInside s (Two at) = at + 2 ≤ length s
YearInside s (Four at) = at + 4 ≤ length s

-- the fields by their places: two digits each, but for a year of four; minute and second stand behind the hour
abbrev pub fields_from : (y : ℕ) (s : List ℕ) (month : ℕ) → Places → Fields
fields_from y s m p = record {
  year = year_from y s p.year;
  month = m;
  day = number (slice s p.day (p.day + 2));
  hour = number (slice s p.time (p.time + 2));
  minute = number (slice s (p.time + 3) (p.time + 3 + 2));
  second = number (slice s (p.time + 6) (p.time + 6 + 2));
}

-- each of the places has its bytes
abbrev pub Inside : List ℕ → Places → Type 0
Inside s p = YearInside s p.year × (p.day + 2 ≤ length s) × (p.time + 8 ≤ length s)

-- the day k is named, and the answer is what a month and a text of the shape w behind it make
pub record Ending (y : ℕ) (s : List ℕ) (k : ℕ) (w : List ℕ) (p : Places) : Type 0 where
  pub within : PresentYear y
  pub room : p.month + length w < 8192
  pub stops : (q : ℕ) → month_then w s p.month ≡ Err q → header (rules y) s ≡ refused MALFORMED q
  pub ends : (m : ℕ) → month_then w s p.month ≡ Ok m → header (rules y) s ≡ judged k (fields_from y s m p)
  pub inside : (m : ℕ) → month_then w s p.month ≡ Ok m → Inside s p
