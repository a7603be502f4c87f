-- What an instant is of a date, and a date of an instant, as the code finds them.
use Prim.Native.Nat.{ℕ, ◌+◌, ◌*◌, ◌/◌, ◌%◌, ◌<◌}
use native.Mathlib.Omega.{arith}
use mathlib.Core.Path.{◌≡◌, refl, sym, ap, ap₂, ◌∙◌}
use mathlib.Core.Bool.{Bool, true, false, cond, ◌&&◌}
use Rattle.std.specs.Prelude.{Some, None}
use lib.IntN.{ℤ}
use Rattle.calendar.specs.declared.Fields.{Fields}
use Rattle.calendar.specs.Gregorian.{day_number, weekday, date?, time?}
use Rattle.calendar.specs.Instants.{since_epoch, seconds_of, located, told, in_range?, since_first, fields_on, fields_at, weekday_at}
use Rattle.calendar.proofs.Dates.{time-is}

module _ (f : Fields) where
  -- a date that does not exist has no instant
  pub nowhere_date : (t : Bool) → t ≡ date? f.year f.month f.day → t ≡ false → None ≡ located f
  unfolding located
  nowhere_date t e n = rw (sym e ∙ n)

  and_no : (a b : Bool) → b ≡ false → a && b ≡ false
  and_no true b e = e
  and_no false b e = refl

  -- nor has a time of day that does not exist
  pub nowhere_time : (t : Bool) → t ≡ time? f.hour f.minute f.second → t ≡ false → None ≡ located f
  unfolding located
  nowhere_time t e n = rw (and_no (date? f.year f.month f.day) (time? f.hour f.minute f.second) (sym e ∙ n))

  pub second_fits : time? f.hour f.minute f.second ≡ true → (f.hour * 3600 + f.minute * 60 + f.second < 86400) × (f.hour * 3600 < 86400) × (f.minute * 60 < 3600)
  second_fits e =
      let v = time-is f.hour f.minute f.second e in
      (omega (arith, v.hours, v.minutes, v.seconds), omega (arith, v.hours), omega (arith, v.minutes))

  pub located-at : (n w : ℕ) (s : ℤ) → date? f.year f.month f.day ≡ true → time? f.hour f.minute f.second ≡ true → w ≡ weekday n
      → n ≡ day_number f.year f.month f.day → s ≡ since_epoch (n * 86400 + (f.hour * 3600 + f.minute * 60 + f.second))
      → Some (record { seconds = s; weekday = w }) ≡ located f
  unfolding located seconds_of
  located-at n w s a b g e d = rw (a, b, d, g, e)

module _ (s : ℤ) where
  pub outside : in_range? s ≡ false → None ≡ told s
  unfolding told
  outside e = rw e

  at-is : (n t : ℕ) → n ≡ since_first s / 86400 → t ≡ since_first s % 86400 → fields_on n t ≡ fields_at s
  unfolding fields_at
  at-is n t a b = ap₂ fields_on a b

  weekday-is : (n : ℕ) → n ≡ since_first s / 86400 → weekday n ≡ weekday_at s
  unfolding weekday_at
  weekday-is n a = ap weekday a

  told-on : in_range? s ≡ true → Some (record { fields = fields_at s; weekday = weekday_at s }) ≡ told s
  unfolding told
  told-on e = sym (ap (λ (u : Bool). cond u (Some (record { fields = fields_at s; weekday = weekday_at s })) None) e)

  pub inside : in_range? s ≡ true → (n t w : ℕ) (f : Fields) → n ≡ since_first s / 86400 → t ≡ since_first s % 86400 → f ≡ fields_on n t → w ≡ weekday n
      → Some (record { fields = f; weekday = w }) ≡ told s
  inside e n t w f a b d g = rw (d ∙ at-is n t a b, g ∙ weekday-is n a) (told-on e)
