-- Dates and day numbers, each from the other.
use Prim.Native.Nat.{ℕ, suc, ◌+◌, ◌-◌, ◌*◌, ◌/◌, ◌%◌, ◌≤◌, ◌<◌}
use native.Mathlib.Omega.{arith}
use borrow.Author.Tests.{leb-true, ltb-true, le-leb, lt-ltb}
use mathlib.Core.Path.{◌≡◌, refl, sym, ap, ap₂, ◌∙◌}
use mathlib.Core.Bool.{Bool, true, false, ◌&&◌, true≢false}
use lib.Dec.{leb, ltb}
use Rattle.calendar.specs.declared.Fields.{Fields}
use Rattle.calendar.specs.Gregorian.{leap?, year_length, month_length, days_of_years, days_of_months, day_number, date?, time?, exists?}
use Rattle.calendar.specs.Instants.{years_before, months_before, elapsed, fields_on}
use Rattle.calendar.proofs.Counting.{days_formula-counts, days-step, grows_on, last-is, last_bound, last_low, last_high}

and_both : (a b : Bool) → a && b ≡ true → (a ≡ true) × (b ≡ true)
and_both true b e = (refl, e)
and_both false b e = absurd (true≢false (sym e))

-- ## What makes a date and a time of day

pub record DateIs (y m d : ℕ) : Type 0 where
  pub from_first : 1583 ≤ y
  pub to_last : y ≤ 9999
  pub from_january : 1 ≤ m
  pub to_december : m ≤ 12
  pub from_one : 1 ≤ d
  pub within : d ≤ month_length (leap? y) m

pub date_is : (y m d : ℕ) → date? y m d ≡ true → DateIs y m d
unfolding date?
date_is y m d e =
    let a = and_both (leb 1583 y) (leb y 9999 && (leb 1 m && (leb m 12 && (leb 1 d && leb d (month_length (leap? y) m))))) e in
    let b = and_both (leb y 9999) (leb 1 m && (leb m 12 && (leb 1 d && leb d (month_length (leap? y) m)))) a.1 in
    let f = and_both (leb 1 m) (leb m 12 && (leb 1 d && leb d (month_length (leap? y) m))) b.1 in
    let g = and_both (leb m 12) (leb 1 d && leb d (month_length (leap? y) m)) f.1 in
    let h = and_both (leb 1 d) (leb d (month_length (leap? y) m)) g.1 in
    record {
      from_first = leb-true 1583 y a.0;
      to_last = leb-true y 9999 b.0;
      from_january = leb-true 1 m f.0;
      to_december = leb-true m 12 g.0;
      from_one = leb-true 1 d h.0;
      within = leb-true d (month_length (leap? y) m) h.1;
    }

pub is-date : (y m d : ℕ) → DateIs y m d → date? y m d ≡ true
unfolding date?
is-date y m d w =
    rw (le-leb 1583 y w.from_first, le-leb y 9999 w.to_last, le-leb 1 m w.from_january, le-leb m 12 w.to_december, le-leb 1 d w.from_one)
    (le-leb d (month_length (leap? y) m) w.within)

pub record TimeIs (h m s : ℕ) : Type 0 where
  pub hours : h < 24
  pub minutes : m < 60
  pub seconds : s < 60

pub time-is : (h m s : ℕ) → time? h m s ≡ true → TimeIs h m s
unfolding time?
time-is h m s e =
    let a = and_both (ltb h 24) (ltb m 60 && ltb s 60) e in
    let b = and_both (ltb m 60) (ltb s 60) a.1 in
    record { hours = ltb-true h 24 a.0; minutes = ltb-true m 60 b.0; seconds = ltb-true s 60 b.1 }

pub is-time : (h m s : ℕ) → TimeIs h m s → time? h m s ≡ true
unfolding time?
is-time h m s w = rw (lt-ltb h 24 w.hours, lt-ltb m 60 w.minutes) (lt-ltb s 60 w.seconds)

-- a date and a time of day that exist
module _ (f : Fields) (e : exists? f ≡ true) where
  both : (date? f.year f.month f.day ≡ true) × (time? f.hour f.minute f.second ≡ true)
  both = and_both (date? f.year f.month f.day) (time? f.hour f.minute f.second) e

  pub date-of : DateIs f.year f.month f.day
  date-of = date_is f.year f.month f.day both.0

  pub time-of : TimeIs f.hour f.minute f.second
  time-of = time-is f.hour f.minute f.second both.1

-- ## Months and years

-- twelve months make a year
pub twelve_months : (leap : Bool) → days_of_months leap 12 ≡ year_length leap
twelve_months true = refl
twelve_months false = refl

pub months-step : (leap : Bool) (n : ℕ) → days_of_months leap n ≤ days_of_months leap (suc n)
months-step leap n = omega arith

-- the days before a day of a month are fewer than the year has
pub day-in_year : (y m d : ℕ) → DateIs y m d → days_of_months (leap? y) (m - 1) + (d - 1) < year_length (leap? y)
day-in_year y m d w =
    let e : suc (m - 1) ≡ m = omega (arith, w.from_january) in
    let k = rw (← e) at w.within in
    omega
    (arith, twelve_months (leap? y), k, w.from_one, grows_on (days_of_months (leap? y)) (months-step (leap? y)) (suc (m - 1)) 12 (omega (arith, w.to_december, w.from_january)))

year_grows : (n : ℕ) → days_of_years (suc n) ≡ days_of_years n + year_length (leap? (1583 + n))
unfolding days_of_years
year_grows n = refl

module _ (y m d : ℕ) (w : DateIs y m d) where
  abbrev in_year : ℕ
  in_year = days_of_months (leap? y) (m - 1) + (d - 1)

  number-below : day_number y m d < days_of_years (suc (y - 1583))
  number-below =
      let e : 1583 + (y - 1583) ≡ y = omega (arith, w.from_first) in
      omega (arith, year_grows (y - 1583), ap (λ (n : ℕ). year_length (leap? n)) e, day-in_year y m d w)

  pub number_small : day_number y m d < 3074246
  number_small =
      omega (arith, number-below, grows_on days_of_years days-step (suc (y - 1583)) 8417 (omega (arith, w.to_last)), days_formula-counts 8417)

  pub years-of-number : years_before (day_number y m d) ≡ y - 1583
  years-of-number =
      last-is days_of_years (day_number y m d) (y - 1583) (grows_on days_of_years days-step) (omega arith) number-below 8416 (omega (arith, w.to_last))

  pub months-of-number : months_before (leap? y) (days_of_months (leap? y) (m - 1) + (d - 1)) ≡ m - 1
  months-of-number =
      let e : suc (m - 1) ≡ m = omega (arith, w.from_january) in
      last-is (days_of_months (leap? y)) (days_of_months (leap? y) (m - 1) + (d - 1)) (m - 1) (grows_on (days_of_months (leap? y)) (months-step (leap? y)))
      (omega arith) (omega (arith, rw (← e) at w.within, w.from_one)) 11 (omega (arith, w.to_december))

-- the day number from its three parts, as they are found
pub number_sum : (y m d : ℕ) (leap : Bool) (a b : ℕ) → a ≡ days_of_years (y - 1583) → leap ≡ leap? y → b ≡ days_of_months leap (m - 1)
    → a + b + (d - 1) ≡ day_number y m d
number_sum y m d leap a b p q r =
    ap₂ (λ (v w : ℕ). v + w + (d - 1)) p (r ∙ ap (λ (t : Bool). days_of_months t (m - 1)) q)

-- ## From a day number to a date

module _ (n : ℕ) (small : n < 3074246) where
  abbrev years : ℕ
  years = years_before n

  abbrev leap_year : Bool
  leap_year = leap? (1583 + years_before n)

  abbrev rest : ℕ
  rest = n - days_of_years (years_before n)

  pub years_bound : years_before n ≤ 8416
  years_bound = last_bound days_of_years n 8416

  none_yet : days_of_years 0 ≤ n
  unfolding days_of_years
  none_yet = omega arith

  pub years_low : days_of_years (years_before n) ≤ n
  years_low = last_low days_of_years n none_yet 8416

  years_high : n < days_of_years (suc (years_before n))
  years_high = last_high days_of_years n 8416 (omega (arith, days_formula-counts 8417))

  rest-small : n - days_of_years (years_before n) < days_of_months (leap? (1583 + years_before n)) 12
  rest-small = omega (arith, years_high, years_low, year_grows (years_before n), twelve_months (leap? (1583 + years_before n)))

  pub months_bound : months_before (leap? (1583 + years_before n)) (n - days_of_years (years_before n)) ≤ 11
  months_bound = last_bound (days_of_months leap_year) rest 11

  pub months_low : days_of_months (leap? (1583 + years_before n)) (months_before (leap? (1583 + years_before n)) (n - days_of_years (years_before n)))
      ≤ n - days_of_years (years_before n)
  months_low = last_low (days_of_months leap_year) rest (omega arith) 11

  months_high : n - days_of_years (years_before n)
      < days_of_months (leap? (1583 + years_before n)) (suc (months_before (leap? (1583 + years_before n)) (n - days_of_years (years_before n))))
  months_high = last_high (days_of_months leap_year) rest 11 rest-small

  -- the fields are a date, and its number is n
  pub on-is-date : (t : ℕ) → DateIs (fields_on n t).year (fields_on n t).month (fields_on n t).day
  on-is-date t =
      let e : suc (months_before leap_year rest) ≡ months_before leap_year rest + 1 = omega arith in
      record {
        from_first = omega arith;
        to_last = omega (arith, years_bound);
        from_january = omega arith;
        to_december = omega (arith, months_bound);
        from_one = omega arith;
        within = rw (← e) (omega (arith, months_high, months_low));
      }

  pub on-number : (t : ℕ) → day_number (fields_on n t).year (fields_on n t).month (fields_on n t).day ≡ n
  on-number t =
      let a : 1583 + years_before n - 1583 ≡ years_before n = omega arith in
      let b : months_before leap_year rest + 1 - 1 ≡ months_before leap_year rest = omega arith in
      rw (a, b) (omega (arith, months_low, years_low))

-- the fields as the code finds them, one after the other
pub fields-found : (n t years dy : ℕ) (leap : Bool) (months dm : ℕ) → years ≡ years_before n → dy ≡ days_of_years years → leap ≡ leap? (1583 + years)
    → months ≡ months_before leap (n - dy) → dm ≡ days_of_months leap months
    → ◌≡◌ {A = Fields}
    (record { year = 1583 + years; month = months + 1; day = n - dy - dm + 1; hour = t / 3600; minute = t / 60 % 60; second = t % 60 }) (fields_on n t)
fields-found n t years dy leap months dm a b c d e = rw (e, d, c, b, a)

-- a date and a time of day from their instant
module _ (f : Fields) (w : DateIs f.year f.month f.day) (v : TimeIs f.hour f.minute f.second) where
  abbrev number : ℕ
  number = day_number f.year f.month f.day

  second-small : f.hour * 3600 + f.minute * 60 + f.second < 86400
  second-small = omega (arith, v.hours, v.minutes, v.seconds)

  pub elapsed-small : elapsed f < 265614854400
  elapsed-small = omega (arith, second-small, number_small f.year f.month f.day w)

  pub elapsed-day : elapsed f / 86400 ≡ day_number f.year f.month f.day
  elapsed-day = quotient (day_number f.year f.month f.day) (f.hour * 3600 + f.minute * 60 + f.second) second-small
    where
      quotient : (a b : ℕ) → b < 86400 → (a * 86400 + b) / 86400 ≡ a
      quotient a b h = omega arith

  pub elapsed-second : elapsed f % 86400 ≡ f.hour * 3600 + f.minute * 60 + f.second
  elapsed-second = remainder (day_number f.year f.month f.day) (f.hour * 3600 + f.minute * 60 + f.second) second-small
    where
      remainder : (a b : ℕ) → b < 86400 → (a * 86400 + b) % 86400 ≡ b
      remainder a b h = omega arith

  clock : (h m s : ℕ) → m < 60 → s < 60
      → ((h * 3600 + m * 60 + s) / 3600 ≡ h) × ((h * 3600 + m * 60 + s) / 60 % 60 ≡ m) × ((h * 3600 + m * 60 + s) % 60 ≡ s)
  clock h m s a b = (omega arith, omega arith, omega arith)

  pub fields-again : fields_on (day_number f.year f.month f.day) (f.hour * 3600 + f.minute * 60 + f.second) ≡ f
  fields-again =
      let y : 1583 + (f.year - 1583) ≡ f.year = omega (arith, w.from_first) in
      let m : f.month - 1 + 1 ≡ f.month = omega (arith, w.from_january) in
      let k = clock f.hour f.minute f.second v.minutes v.seconds in
      let r : day_number f.year f.month f.day - days_of_years (f.year - 1583) ≡ days_of_months (leap? f.year) (f.month - 1) + (f.day - 1) = omega arith in
      let d : days_of_months (leap? f.year) (f.month - 1) + (f.day - 1) - days_of_months (leap? f.year) (f.month - 1) + 1 ≡ f.day = omega (arith, w.from_one) in
      rw (years-of-number f.year f.month f.day w, y, r, months-of-number f.year f.month f.day w, m, d, k.0, k.1, k.2)
