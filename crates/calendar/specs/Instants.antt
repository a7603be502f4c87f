-- Instants: the seconds since 1970-01-01 00:00:00, negative before it, and the fields of a date and a time of day.
use Rattle.std.specs.Prelude.{ℕ, zero, suc, ◌+◌, ◌-◌, ◌*◌, ◌/◌, ◌%◌, Bool, cond, ◌&&◌, leb, Option, Some, None, ℤ, pos, negsuc}
use Rattle.std.proofs.Math.IntN.{sub_ℕ}
use Rattle.std.specs.Int.Signed.{le_z}
use Rattle.calendar.specs.declared.Fields.{Fields}
use Rattle.calendar.specs.declared.Instant.{Instant}
use Rattle.calendar.specs.declared.Moment.{Moment}
use Rattle.calendar.specs.Gregorian.{leap?, first_year, last_year, days_of_years, days_of_months, day_number, weekday, exists?}

abbrev pub day_seconds : ℕ
day_seconds = 86400

-- the seconds from 1 January 1583, 00:00:00, to 1 January 1970, 00:00:00
abbrev pub epoch : ℕ
epoch = 12212553600

-- the seconds from 1 January 1583, 00:00:00
abbrev pub elapsed : Fields → ℕ
elapsed f = day_number f.year f.month f.day * day_seconds + (f.hour * 3600 + f.minute * 60 + f.second)

-- an instant by the seconds from 1 January 1583, 00:00:00
abbrev pub since_epoch : ℕ → ℤ
since_epoch n = sub_ℕ n epoch

-- "The result is the fields and the seconds since 1970-01-01 00:00:00; instants before 1970 are negative"
unfoldable pub seconds_of : Fields → ℤ
seconds_of f = since_epoch (elapsed f)

unfoldable pub located : Fields → Option Instant
located f = cond (exists? f) (Some (record { seconds = seconds_of f; weekday = weekday (day_number f.year f.month f.day) })) None

-- "The range is -12,212,553,600 to 253,402,300,799."
abbrev pub in_range? : ℤ → Bool
in_range? s = le_z (negsuc 12212553599) s && le_z s (pos 253402300799)

-- the last k up to n with f k ≤ x, or 0
abbrev pub last_within : (f : ℕ → ℕ) (n x : ℕ) → ℕ
last_within f zero x = zero
last_within f (suc n) x = cond (leb (f (suc n)) x) (suc n) (last_within f n x)

-- the instant, in seconds from 1 January 1583, 00:00:00
abbrev pub since_first : ℤ → ℕ
since_first (pos n) = epoch + n
since_first (negsuc n) = epoch - suc n

-- the whole years before a day, from the first one on; the whole months before a day of a year
abbrev pub years_before : (day_number : ℕ) → ℕ
years_before n = last_within days_of_years (last_year - first_year) n

abbrev pub months_before : (leap : Bool) (day-of-year : ℕ) → ℕ
months_before leap d = last_within (days_of_months leap) 11 d

-- the date of a day, counted from 1 January 1583, and a time of day
abbrev pub fields_on : (day_number second : ℕ) → Fields
fields_on n t =
    let y = first_year + years_before n in
    let d = n - days_of_years (years_before n) in
    let m = months_before (leap? y) d in
    record {
      year = y;
      month = m + 1;
      day = d - days_of_months (leap? y) m + 1;
      hour = t / 3600;
      minute = t / 60 % 60;
      second = t % 60;
    }

unfoldable pub fields_at : ℤ → Fields
fields_at s = fields_on (since_first s / day_seconds) (since_first s % day_seconds)

unfoldable pub weekday_at : ℤ → ℕ
weekday_at s = weekday (since_first s / day_seconds)

unfoldable pub told : ℤ → Option Moment
told s = cond (in_range? s) (Some (record { fields = fields_at s; weekday = weekday_at s })) None
