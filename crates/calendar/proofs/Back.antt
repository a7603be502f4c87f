-- Fields and seconds, each from the other.
use Prim.Native.Nat.{ℕ, ◌+◌, ◌/◌, ◌%◌, ◌*◌, ◌<◌}
use native.Mathlib.Omega.{arith}
use mathlib.Core.Path.{◌≡◌, ap, ap₂, ◌∙◌}
use mathlib.Core.Bool.{true}
use lib.IntN.{ℤ}
use Rattle.calendar.specs.declared.Fields.{Fields}
use Rattle.calendar.specs.Gregorian.{day_number, weekday, exists?}
use Rattle.calendar.specs.Instants.{elapsed, since_epoch, seconds_of, in_range?, since_first, fields_on, fields_at, weekday_at}
use Rattle.calendar.proofs.Dates.{TimeIs, date-of, time-of, is-date, is-time, on-is-date, on-number, elapsed-small, elapsed-day, elapsed-second, fields-again}
use Rattle.calendar.proofs.Signed.{since_first-small, since_first-back, since_epoch-back}

module _ (f : Fields) (e : exists? f ≡ true) where
  abbrev back : (in_range? (since_epoch (elapsed f)) ≡ true) × (since_first (since_epoch (elapsed f)) ≡ elapsed f)
  back = since_epoch-back (elapsed f) (elapsed-small f (date-of f e) (time-of f e))

  pub in_range : in_range? (seconds_of f) ≡ true
  unfolding seconds_of
  in_range = back.0

  day-back : since_first (seconds_of f) / 86400 ≡ day_number f.year f.month f.day
  unfolding seconds_of
  day-back = ap (λ (n : ℕ). n / 86400) back.1 ∙ elapsed-day f (date-of f e) (time-of f e)

  pub same_fields : fields_at (seconds_of f) ≡ f
  unfolding seconds_of fields_at
  same_fields =
      ap₂ fields_on day-back (ap (λ (n : ℕ). n % 86400) back.1 ∙ elapsed-second f (date-of f e) (time-of f e))
      ∙ fields-again f (date-of f e) (time-of f e)

  pub same-weekday : weekday_at (seconds_of f) ≡ weekday (day_number f.year f.month f.day)
  unfolding weekday_at
  same-weekday = ap weekday day-back

module _ (s : ℤ) (e : in_range? s ≡ true) where
  abbrev day : ℕ
  day = since_first s / 86400

  abbrev second : ℕ
  second = since_first s % 86400

  day-small : since_first s / 86400 < 3074246
  day-small = omega (arith, since_first-small s e)

  clock : (t : ℕ) → t < 86400 → TimeIs (t / 3600) (t / 60 % 60) (t % 60)
  clock t h = record { hours = omega arith; minutes = omega arith; seconds = omega arith }

  pub fields_exist : exists? (fields_at s) ≡ true
  unfolding fields_at
  fields_exist = rw (is-date _ _ _ (on-is-date day day-small second)) (is-time _ _ _ (clock second (omega arith)))

  pub same-seconds : seconds_of (fields_at s) ≡ s
  unfolding seconds_of fields_at
  same-seconds =
      let f = fields_on day second in
      ap since_epoch (total (since_first s) (day_number f.year f.month f.day) (on-number day day-small second)) ∙ since_first-back s e
    where
      total : (n d : ℕ) → d ≡ n / 86400 → d * 86400 + (n % 86400 / 3600 * 3600 + n % 86400 / 60 % 60 * 60 + n % 86400 % 60) ≡ n
      total n d h = omega arith
