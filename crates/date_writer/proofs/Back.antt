-- What the writer writes is read as the same date.
use Prim.Native.Nat.{ℕ, zero, suc, ◌+◌, ◌-◌, ◌*◌, ◌/◌, ◌%◌, ◌≤◌, ◌<◌}
use native.Mathlib.Omega.{arith}
use borrow.Author.Tests.{le-leb}
use mathlib.Core.Path.{◌≡◌, refl, sym, ap, ◌∙◌}
use mathlib.Core.Bool.{Bool, true, false, cond, ◌&&◌}
use mathlib.Core.List.{List, [], ◌∷◌}
use lib.Dec.{eqb}
use lib.ListN.{length, drop}
use Rattle.grammar.specs.Reading.{value}
use Rattle.grammar.specs.helpers.Judge.{header}
use Rattle.grammar.specs.Text.{bytes}
use Rattle.octets.specs.Bytes.{digit?}
use Rattle.octets.specs.Numbers.{number}
use Rattle.calendar.specs.declared.Fields.{Fields}
use Rattle.calendar.specs.Gregorian as Gregorian
use Rattle.calendar.specs.Gregorian.{leap?, day_number, exists?}
use Rattle.calendar.proofs.Counting.{lengths-small}
use Rattle.calendar.proofs.Dates.{DateIs, TimeIs, date-of, time-of}
use Rattle.date.specs.Years.{PresentYear}
use Rattle.date.specs.Grammar.{forms, rules, value_of}
use Rattle.date.specs.Names.{month_names, day_names, first_name}
use Rattle.date.specs.helpers.Scan.{judged, fields_from, rest_of, rest_bytes, Goes, Ending}
use Rattle.octets.specs.helpers.Shapes.{fitting}
use Rattle.date.specs.helpers.Shapes.{standing}
use Rattle.date_writer.specs.Writing.{tens, ones, date_text}
use Rattle.date.proofs.Months.{name_of}
use Rattle.date.proofs.Judged.{judged-well}
use Rattle.date.proofs.Tables.{month-is}
use Rattle.date.proofs.Scan.{day-found, goes-rfc1123, rfc1123-end, rfc1123_places}

-- ## Names are found where they stand

day-numbered : (k : ℕ) (rest : List ℕ) → k < 7 → first_name 1 day_names (name_of day_names k rest) ≡ suc k
unfolding first_name
day-numbered zero rest h = refl
day-numbered (suc zero) rest h = refl
day-numbered (suc (suc zero)) rest h = refl
day-numbered (suc (suc (suc zero))) rest h = refl
day-numbered (suc (suc (suc (suc zero)))) rest h = refl
day-numbered (suc (suc (suc (suc (suc zero))))) rest h = refl
day-numbered (suc (suc (suc (suc (suc (suc zero)))))) rest h = refl
day-numbered (suc (suc (suc (suc (suc (suc (suc n))))))) rest h = absurd (omega arith)

month-numbered : (k : ℕ) (rest : List ℕ) → k < 12 → first_name 1 month_names (name_of month_names k rest) ≡ suc k
unfolding first_name
month-numbered zero rest h = refl
month-numbered (suc zero) rest h = refl
month-numbered (suc (suc zero)) rest h = refl
month-numbered (suc (suc (suc zero))) rest h = refl
month-numbered (suc (suc (suc (suc zero)))) rest h = refl
month-numbered (suc (suc (suc (suc (suc zero))))) rest h = refl
month-numbered (suc (suc (suc (suc (suc (suc zero)))))) rest h = refl
month-numbered (suc (suc (suc (suc (suc (suc (suc zero))))))) rest h = refl
month-numbered (suc (suc (suc (suc (suc (suc (suc (suc zero)))))))) rest h = refl
month-numbered (suc (suc (suc (suc (suc (suc (suc (suc (suc zero))))))))) rest h = refl
month-numbered (suc (suc (suc (suc (suc (suc (suc (suc (suc (suc zero)))))))))) rest h = refl
month-numbered (suc (suc (suc (suc (suc (suc (suc (suc (suc (suc (suc zero))))))))))) rest h = refl
month-numbered (suc (suc (suc (suc (suc (suc (suc (suc (suc (suc (suc (suc n)))))))))))) rest h = absurd (omega arith)

-- ## Digits

digit_is : (n : ℕ) → n < 10 → digit? (48 + n) ≡ true
unfolding digit?
digit_is n h = rw (le-leb 48 (48 + n) (omega arith), le-leb (48 + n) 57 (omega arith))

pub tens-is : (n : ℕ) → digit? (tens n) ≡ true
tens-is n = digit_is (n / 10 % 10) (omega arith)

pub ones_is : (n : ℕ) → digit? (ones n) ≡ true
ones_is n = digit_is (n % 10) (omega arith)

pub two_back : (n : ℕ) → n < 100 → number (tens n ∷ ones n ∷ []) ≡ n
two_back n h = omega arith

pub four-back : (n : ℕ) → n ≤ 9999 → number (tens (n / 100) ∷ ones (n / 100) ∷ tens n ∷ ones n ∷ []) ≡ n
four-back n h = sum (n / 100 / 10 % 10) (n / 100 % 10) (n / 10 % 10) (n % 10) (n / 100) (n % 100) (high (n / 100) (omega arith)) (low n) (omega arith)
  where
    high : (c : ℕ) → c < 100 → c / 10 % 10 * 10 + c % 10 ≡ c
    high c h = omega arith

    low : (n : ℕ) → n / 10 % 10 * 10 + n % 10 ≡ n % 100
    low n = omega arith

    sum : (a b t o c r : ℕ) → a * 10 + b ≡ c → t * 10 + o ≡ r → c * 100 + r ≡ n → number ((48 + a) ∷ (48 + b) ∷ (48 + t) ∷ (48 + o) ∷ []) ≡ n
    sum a b t o c r x y z = omega arith

-- ## The text of a date

abbrev tail_shape : List ℕ
tail_shape = bytes " 0000 00:00:00 GMT"

module _ (f : Fields) (k : ℕ) (e : exists? f ≡ true) (w : k ≡ Gregorian.weekday (day_number f.year f.month f.day)) where
  pub date : DateIs f.year f.month f.day
  date = date-of f e

  pub time : TimeIs f.hour f.minute f.second
  time = time-of f e

  pub low : k < 7
  low = omega (arith, w)

  pub few-days : f.day < 100
  few-days = omega (arith, date.within, lengths-small (f.month - 1) (omega (arith, date.to_december)), one_more (leap? f.year && eqb f.month 2))
    where
      one_more : (t : Bool) → cond t 1 0 ≤ 1
      one_more true = omega arith
      one_more false = omega arith

  short : length (date_text k f) ≤ 8192
  unfolding date_text
  short = omega arith

  day : first_name 1 day_names (drop 0 (date_text k f)) ≡ suc k
  unfolding date_text
  day = day-numbered k (drop 3 (date_text k f)) low

  at_comma : standing (date_text k f) 3 44 ≡ true
  unfolding date_text
  at_comma = refl

  head-fits : fitting (bytes ", 00 ") (drop 3 (date_text k f)) ≡ 5
  unfolding date_text
  head-fits = rw (tens-is f.day, ones_is f.day)

  month-number : suc (f.month - 1) ≡ f.month
  month-number = omega (arith, date.from_january)

  month-found : f.month ≡ first_name 1 month_names (drop 8 (date_text k f))
  unfolding date_text
  month-found = sym (month-numbered (f.month - 1) (drop 11 (date_text k f)) (omega (arith, date.to_december)) ∙ month-number)

  tail_fits : 18 ≡ fitting tail_shape (drop (8 + 3) (date_text k f))
  unfolding date_text
  tail_fits =
      rw (tens-is (f.year / 100), ones_is (f.year / 100), tens-is f.year, ones_is f.year, tens-is f.hour, ones_is f.hour)
      (rw (tens-is f.minute, ones_is f.minute, tens-is f.second, ones_is f.second))

  whole : length (date_text k f) ≤ 8 + 3 + 18
  unfolding date_text
  whole = omega arith

  -- in any present year
  module _ (y : ℕ) (within : PresentYear y) where
    after-day : Goes y (forms (rest_of k) (rest_bytes k)) (date_text k f) k
    after-day = day-found y within (date_text k f) short k day

    ending : Ending y (date_text k f) k tail_shape rfc1123_places
    ending = rfc1123-end y (date_text k f) k (goes-rfc1123 y (date_text k f) k after-day at_comma) 5 (sym head-fits) (omega arith)

    fields_back : fields_from y (date_text k f) f.month rfc1123_places ≡ f
    unfolding date_text
    fields_back =
        rw (two_back f.day few-days, four-back f.year date.to_last, two_back f.hour (omega (arith, time.hours)))
        (rw (two_back f.minute (omega (arith, time.minutes)), two_back f.second (omega (arith, time.seconds))))

    pub text-reads : header (rules y) (date_text k f) ≡ value (value_of f)
    text-reads =
        let found = month-is tail_shape (date_text k f) 8 f.month 18 month-found (λ z. omega (arith, date.from_january, z)) tail_fits (omega arith) whole in
        ending.ends f.month (sym found) ∙ ap (judged k) fields_back ∙ judged-well f k e w
