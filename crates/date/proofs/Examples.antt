-- Cases of request (ii), computed.
use Prim.Native.Nat.{ℕ}
use lib.IntN.{ℤ, pos, negsuc}
use mathlib.Core.Path.{◌≡◌, refl}
use mathlib.Core.List.{List}
use Rattle.grammar.specs.Refusals.{NO_SUCH_DATE, WRONG_DAY_NAME, OUT_OF_RANGE}
use Rattle.grammar.specs.Reading.{Verdict, value, refused}
use Rattle.grammar.specs.Text.{bytes}
use Rattle.octets.specs.Bytes.{digit?}
use Rattle.calendar.specs.Gregorian.{leap?, days_of_years, date?, time?}
use Rattle.calendar.specs.Instants.{seconds_of}
use Rattle.date.specs.declared.Date.{Date}
use Rattle.date.specs.Years.{full_year}
use Rattle.date.specs.Grammar.{fault_of}
use Rattle.date.specs.Reading.{reading}

-- both ends of the window from Y-49 to Y+50
years :
    (full_year 2026 76 ≡ 2076) × (full_year 2026 77 ≡ 1977)
    × (full_year 1994 44 ≡ 2044) × (full_year 1994 45 ≡ 1945)
    × (full_year 2019 69 ≡ 2069) × (full_year 2019 70 ≡ 1970)
    × (full_year 1632 82 ≡ 1682) × (full_year 1632 83 ≡ 1583)
    × (full_year 9949 99 ≡ 9999) × (full_year 9949 0 ≡ 9900)
unfolding full_year
years = (refl, refl, refl, refl, refl, refl, refl, refl, refl, refl)

-- "otherwise refusal 9 before anything is read": whatever the bytes, and so for 8,193 of them
outside : (s : List ℕ) → (reading 1631 s ≡ refused OUT_OF_RANGE 0) × (reading 9950 s ≡ refused OUT_OF_RANGE 0)
    × (reading 0 s ≡ refused OUT_OF_RANGE 0) × (reading 4294967295 s ≡ refused OUT_OF_RANGE 0)
outside s = (refl, refl, refl, refl)

-- midnight of a day, and its seconds
abbrev midnight : (year month day : ℕ) → ℤ → Verdict Date
midnight y m d z = value (record { fields = record { year = y; month = m; day = d; hour = 0; minute = 0; second = 0 }; seconds = z })

-- the same of whole texts
texts :
    (reading 2026 (bytes "Wednesday, 01-Jan-76 00:00:00 GMT") ≡ midnight 2076 1 1 (pos 3345062400))
    × (reading 1994 (bytes "Friday, 01-Jan-44 00:00:00 GMT") ≡ midnight 2044 1 1 (pos 2335219200))
    × (reading 1994 (bytes "Monday, 01-Jan-45 00:00:00 GMT") ≡ midnight 1945 1 1 (negsuc 788918399))
unfolding digit? leap? days_of_years date? time? seconds_of full_year fault_of
texts = (refl, refl, refl)

-- "Day names are checked against the chosen year.": 1 January was a Saturday in 1977 and is a Friday in 2077
day_names :
    (reading 2026 (bytes "Saturday, 01-Jan-77 00:00:00 GMT") ≡ midnight 1977 1 1 (pos 220924800))
    × (reading 2027 (bytes "Saturday, 01-Jan-77 00:00:00 GMT") ≡ refused WRONG_DAY_NAME 0)
    × (reading 2027 (bytes "Friday, 01-Jan-77 00:00:00 GMT") ≡ midnight 2077 1 1 (pos 3376684800))
    × (reading 2026 (bytes "Friday, 01-Jan-77 00:00:00 GMT") ≡ refused WRONG_DAY_NAME 0)
unfolding digit? leap? days_of_years date? time? seconds_of full_year fault_of
day_names = (refl, refl, refl, refl)

-- and so is the length of February: 2000 was a leap year, 1900 was not
leap_days :
    (reading 2019 (bytes "Tuesday, 29-Feb-00 00:00:00 GMT") ≡ midnight 2000 2 29 (pos 951782400))
    × (reading 1850 (bytes "Tuesday, 29-Feb-00 00:00:00 GMT") ≡ refused NO_SUCH_DATE 0)
    × (reading 1850 (bytes "Wednesday, 28-Feb-00 00:00:00 GMT") ≡ midnight 1900 2 28 (negsuc 2203977599))
unfolding digit? leap? days_of_years date? time? seconds_of full_year fault_of
leap_days = (refl, refl, refl)
