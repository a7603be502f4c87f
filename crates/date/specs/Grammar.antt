-- HTTP-date (RFC 2616 3.3.1): the forms of RFC 1123, RFC 850 and asctime. "Dates are case-sensitive, without extra blanks."
use Rattle.std.specs.Prelude.{ℕ, ◌≡◌, ◌⊎◌, cond, List, [], ◌∷◌, T, eqb}
use Rattle.std.proofs.Math.Option.{Option, none, some}
use Rattle.grammar.specs.Grammar.{Part, Grammar, empty, byte, ◌⨾◌, ◌∣◌, part, lit, bytes?}
use Rattle.grammar.specs.Reading.{Fault, no-such-date, wrong-day, Rules}
use Rattle.grammar.specs.Text.{bytes}
use Rattle.octets.specs.Classes.{DIGIT}
use Rattle.octets.specs.Numbers.{number}
use Rattle.calendar.specs.declared.Fields.{Fields}
use Rattle.calendar.specs.Gregorian as Gregorian
use Rattle.calendar.specs.Gregorian.{day_number, exists?}
use Rattle.calendar.specs.Instants.{seconds_of}
use Rattle.date.specs.declared.Date.{Date}
use Rattle.date.specs.Years.{full_year, base_year}

-- The parts. Days of the week are counted from 0, which is Monday, and months from 1: the empty part behind a name says which it is.
pub data Name : Type 0 where
  weekday month : ℕ → Name
  day year short-year hour minute second : Name

-- numbers of one, two and four digits, and then g
abbrev pub one : Name → Grammar Name → Grammar Name
one l g = part l (byte DIGIT) ⨾ g

abbrev pub two : Name → Grammar Name → Grammar Name
two l g = part l (byte DIGIT ⨾ byte DIGIT) ⨾ g

abbrev pub four : Name → Grammar Name → Grammar Name
four l g = part l (byte DIGIT ⨾ byte DIGIT ⨾ byte DIGIT ⨾ byte DIGIT) ⨾ g

-- 08:49:37, and then g
abbrev pub time : Grammar Name → Grammar Name
time g = two hour (lit (bytes ":") tt (two minute (lit (bytes ":") tt (two second g))))

abbrev pub months : Grammar Name
months =
    lit (bytes "Jan") tt (part (month 1) empty)
    ∣ lit (bytes "Feb") tt (part (month 2) empty)
    ∣ lit (bytes "Mar") tt (part (month 3) empty)
    ∣ lit (bytes "Apr") tt (part (month 4) empty)
    ∣ lit (bytes "May") tt (part (month 5) empty)
    ∣ lit (bytes "Jun") tt (part (month 6) empty)
    ∣ lit (bytes "Jul") tt (part (month 7) empty)
    ∣ lit (bytes "Aug") tt (part (month 8) empty)
    ∣ lit (bytes "Sep") tt (part (month 9) empty)
    ∣ lit (bytes "Oct") tt (part (month 10) empty)
    ∣ lit (bytes "Nov") tt (part (month 11) empty)
    ∣ lit (bytes "Dec") tt (part (month 12) empty)

abbrev pub gmt : Grammar Name
gmt = lit (bytes " GMT") tt empty

-- RFC 1123, behind the name of the day: `, 06 Nov 1994 08:49:37 GMT`
abbrev pub rfc1123 : Grammar Name
rfc1123 =
    lit (bytes ", ") tt (two day (lit (bytes " ") tt
    (months ⨾ lit (bytes " ") tt (four year (lit (bytes " ") tt (time gmt))))))

-- RFC 850: `, 06-Nov-94 08:49:37 GMT`
abbrev pub rfc850 : Grammar Name
rfc850 =
    lit (bytes ", ") tt (two day (lit (bytes "-") tt
    (months ⨾ lit (bytes "-") tt (two short-year (lit (bytes " ") tt (time gmt))))))

-- asctime: ` Nov  6 08:49:37 1994`. "The asctime day may be two digits or a blank and one digit."
abbrev pub clock_and_year : Grammar Name
clock_and_year = lit (bytes " ") tt (time (lit (bytes " ") tt (four year empty)))

abbrev pub asctime : Grammar Name
asctime =
    lit (bytes " ") tt
    (months ⨾ lit (bytes " ") tt (two day clock_and_year ∣ lit (bytes " ") tt (one day clock_and_year)))

-- what may follow the short name of a day, whose long name ends with l
abbrev pub forms : (l : List ℕ) → T (bytes? l) → Grammar Name
forms l p = rfc1123 ∣ lit l p rfc850 ∣ asctime

-- the short name s of the day k, and then g
abbrev pub on_day : (k : ℕ) (s : List ℕ) → T (bytes? s) → Grammar Name → Grammar Name
on_day k s p g = lit s p (part (weekday k) empty ⨾ g)

-- each day of the week, and then what g makes of the rest of its long name
abbrev pub days : ((l : List ℕ) → T (bytes? l) → Grammar Name) → Grammar Name
days g =
    on_day 0 (bytes "Mon") tt (g (bytes "day") tt)
    ∣ on_day 1 (bytes "Tue") tt (g (bytes "sday") tt)
    ∣ on_day 2 (bytes "Wed") tt (g (bytes "nesday") tt)
    ∣ on_day 3 (bytes "Thu") tt (g (bytes "rsday") tt)
    ∣ on_day 4 (bytes "Fri") tt (g (bytes "day") tt)
    ∣ on_day 5 (bytes "Sat") tt (g (bytes "urday") tt)
    ∣ on_day 6 (bytes "Sun") tt (g (bytes "day") tt)

abbrev pub date : Grammar Name
date = days forms

-- each of the three forms alone
abbrev pub rfc1123_date : Grammar Name
rfc1123_date = days (λ l p. rfc1123)

abbrev pub rfc850_date : Grammar Name
rfc850_date = days (λ l p. lit l p rfc850)

abbrev pub asctime_date : Grammar Name
asctime_date = days (λ l p. asctime)

-- what the parts say: the day of the week that is named, and the fields
pub record Said : Type 0 where
  pub named : ℕ
  pub fields : Fields

abbrev pub saying : (named year month day hour minute second : ℕ) → Said
saying k y m d h n s = record {
  named = k;
  fields = record { year = y; month = m; day = d; hour = h; minute = n; second = s };
}

-- What the parts say, where `years` says what the two digits of a year mean.
module _ (years : ℕ → ℕ) where
  -- with what one part says, its bytes being t
  abbrev pub noted : Name → (t : List ℕ) → Said → Said
  noted (weekday k) t s = record { named = k; fields = s.fields }
  noted (month k) t s =
      let f = s.fields in
      saying s.named f.year k f.day f.hour f.minute f.second
  noted day t s =
      let f = s.fields in
      saying s.named f.year f.month (number t) f.hour f.minute f.second
  noted year t s =
      let f = s.fields in
      saying s.named (number t) f.month f.day f.hour f.minute f.second
  noted short-year t s =
      let f = s.fields in
      saying s.named (years (number t)) f.month f.day f.hour f.minute f.second
  noted hour t s =
      let f = s.fields in
      saying s.named f.year f.month f.day (number t) f.minute f.second
  noted minute t s =
      let f = s.fields in
      saying s.named f.year f.month f.day f.hour (number t) f.second
  noted second t s =
      let f = s.fields in
      saying s.named f.year f.month f.day f.hour f.minute (number t)

  -- a date has each of its parts, so that nothing of what no parts say is left
  abbrev pub said : List (Part Name) → Said
  said [] = saying 0 0 0 0 0 0 0
  said (p ∷ ps) = noted p.label p.text (said ps)

-- among the parts is one of that name, its bytes being t
abbrev pub Among : Name → (t : List ℕ) → List (Part Name) → Type 0
Among l t [] = ⊥
Among l t (p ∷ ps) = ((p.label ≡ l) × (p.text ≡ t)) ⊎ Among l t ps

-- no such date or time, then a day name that disagrees with the date
unfoldable pub fault_of : ℕ → Fields → Option Fault
fault_of k f =
    cond (exists? f) (cond (eqb k (Gregorian.weekday (day_number f.year f.month f.day))) none (some wrong-day)) (some no-such-date)

abbrev pub value_of : Fields → Date
value_of f = record { fields = f; seconds = seconds_of f }

abbrev pub rules_with : (years : ℕ → ℕ) → Rules Name Date
rules_with years = record {
  grammar = date;
  limit = λ k ps. none;
  fault = λ ps. fault_of (said years ps).named (said years ps).fields;
  value = λ ps. value_of (said years ps).fields;
}

-- in a present year
abbrev pub rules : (present : ℕ) → Rules Name Date
rules y = rules_with (full_year y)

-- as document 01 had them, before there was a present year
abbrev pub base_rules : Rules Name Date
base_rules = rules_with base_year
