-- The theorems of the calendar: what a customer reads.
use Prim.Native.Nat.{ℕ, ◌+◌, ◌*◌}
use mathlib.Core.Path.{◌≡◌, sym, ap, ◌∙◌}
use mathlib.Core.Logic.{◌↔◌}
use mathlib.Core.Bool.{Bool, true}
use lib.IntN.{ℤ, pos}
use Rattle.calendar.specs.declared.Fields.{Fields}
use Rattle.calendar.specs.Gregorian.{days_of_months, year_length, day_number, weekday, exists?}
use Rattle.calendar.specs.Instants.{since_epoch, seconds_of, in_range?, fields_at, weekday_at}
use Rattle.calendar.proofs.Counting.{days_formula-counts}
use Rattle.calendar.proofs.Dates as Dates
use Rattle.calendar.proofs.Back as Back

-- twelve months make a year
pub twelve_months : (leap : Bool) → days_of_months leap 12 ≡ year_length leap
twelve_months = Dates.twelve_months

-- "seconds since 1970-01-01 00:00:00": that instant is 0, and it is a Thursday
pub zero-is_1970 : seconds_of (record { year = 1970; month = 1; day = 1; hour = 0; minute = 0; second = 0 }) ≡ pos 0
unfolding seconds_of
zero-is_1970 = ap (λ (n : ℕ). since_epoch ((n + 0 + 0) * 86400 + 0)) (days_formula-counts 387)

pub thursday : weekday (day_number 1970 1 1) ≡ 3
thursday = ap (λ (n : ℕ). weekday (n + 0 + 0)) (days_formula-counts 387)

-- Fields and seconds determine each other: the instant of a date is in the range, and has that date's fields and day of the week,
module _ (f : Fields) (e : exists? f ≡ true) where
  pub in_range : in_range? (seconds_of f) ≡ true
  in_range = Back.in_range f e

  pub same_fields : fields_at (seconds_of f) ≡ f
  same_fields = Back.same_fields f e

  pub same-weekday : weekday_at (seconds_of f) ≡ weekday (day_number f.year f.month f.day)
  same-weekday = Back.same-weekday f e

-- and the fields of an instant are those of a date, whose instant it is.
module _ (s : ℤ) (e : in_range? s ≡ true) where
  pub fields_exist : exists? (fields_at s) ≡ true
  fields_exist = Back.fields_exist s e

  pub same-seconds : seconds_of (fields_at s) ≡ s
  same-seconds = Back.same-seconds s e

-- Two dates are the same instant exactly when their seconds are equal.
pub same_instant : (f g : Fields) → exists? f ≡ true → exists? g ≡ true → (f ≡ g) ↔ (seconds_of f ≡ seconds_of g)
same_instant f g p q = (ap seconds_of, λ h. sym (same_fields f p) ∙ ap fields_at h ∙ same_fields g q)
