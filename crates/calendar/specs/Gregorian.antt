-- The Gregorian calendar: days are counted from the lengths of its years and months. Definitions alone.
use Rattle.std.specs.Prelude.{ℕ, zero, suc, ◌+◌, ◌-◌, ◌%◌, Bool, cond, ◌&&◌, ◌||◌, not, List, [], ◌∷◌, leb, ltb, eqb, get_or}
use Rattle.calendar.specs.declared.Fields.{Fields}

-- every fourth year, but of the hundredth years only every fourth
unfoldable pub leap? : ℕ → Bool
leap? y = eqb (y % 4) 0 && (not (eqb (y % 100) 0) || eqb (y % 400) 0)

abbrev pub year_length : (leap : Bool) → ℕ
year_length leap = cond leap 366 365

-- the lengths of the months of a common year
abbrev pub lengths : List ℕ
lengths = 31 ∷ 28 ∷ 31 ∷ 30 ∷ 31 ∷ 30 ∷ 31 ∷ 31 ∷ 30 ∷ 31 ∷ 30 ∷ 31 ∷ []

-- months are counted from 1; February has a day more in a leap year
abbrev pub month_length : (leap : Bool) (month : ℕ) → ℕ
month_length leap m = get_or lengths (m - 1) 0 + cond (leap && eqb m 2) 1 0

-- "year 1583 to 9999"
abbrev pub first_year : ℕ
first_year = 1583

abbrev pub last_year : ℕ
last_year = 9999

-- the days of the first n years, from the first one on
unfoldable pub days_of_years : ℕ → ℕ
days_of_years zero = 0
days_of_years (suc n) = days_of_years n + year_length (leap? (first_year + n))

-- the days of the first n months of a year
abbrev pub days_of_months : (leap : Bool) (n : ℕ) → ℕ
days_of_months leap zero = 0
days_of_months leap (suc n) = days_of_months leap n + month_length leap (suc n)

-- the days from 1 January of the first year to a date
abbrev pub day_number : (year month day : ℕ) → ℕ
day_number y m d = days_of_years (y - first_year) + days_of_months (leap? y) (m - 1) + (d - 1)

-- Days of the week are counted from 0, which is Monday. 1 January 1583 was a Saturday.
abbrev pub weekday : (day_number : ℕ) → ℕ
weekday n = (n + 5) % 7

-- "year 1583 to 9999 and day 1 to the Gregorian month length"
unfoldable pub date? : (year month day : ℕ) → Bool
date? y m d = leb first_year y && (leb y last_year && (leb 1 m && (leb m 12 && (leb 1 d && leb d (month_length (leap? y) m)))))

-- "hour 0 to 23, minute and second 0 to 59"
unfoldable pub time? : (hour minute second : ℕ) → Bool
time? h m s = ltb h 24 && (ltb m 60 && ltb s 60)

abbrev pub exists? : Fields → Bool
exists? f = date? f.year f.month f.day && time? f.hour f.minute f.second
