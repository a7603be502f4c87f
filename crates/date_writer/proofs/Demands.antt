-- The theorems of the writer of dates: what a customer reads. What `reading` answers is the theorem `answers` of date.
use Prim.Native.Nat.{ℕ, ◌≤◌}
use mathlib.Core.Path.{◌≡◌, refl, sym, ap, ◌∙◌}
use mathlib.Core.Bool.{true}
use mathlib.Core.List.{List}
use lib.IntN.{ℤ}
use lib.ListN.{length, take}
use Rattle.grammar.specs.Grammar.{Part, Parses}
use Rattle.grammar.specs.Reading.{value}
use Rattle.calendar.specs.declared.Fields.{Fields}
use Rattle.calendar.specs.Gregorian.{weekday, day_number, exists?}
use Rattle.calendar.specs.Instants.{in_range?, fields_at, weekday_at}
use Rattle.calendar.proofs.Demands.{fields_exist, same-seconds, same-weekday}
use Rattle.date.specs.Years.{PresentYear}
use Rattle.date.specs.Grammar.{Name, rfc1123_date, said, value_of}
use Rattle.date.specs.Reading.{reading}
use Rattle.date.proofs.Years.{reading_in}
use Rattle.date_writer.specs.Writing.{date_text, instant_text, date_writing, date_output}
use Rattle.date_writer.proofs.Back.{text-reads}
use Rattle.date_writer.proofs.Form.{text_parts, text_parses, text_says}
use Rattle.date_writer.proofs.Writer.{text_length, stands}

-- the text of any date, in the form of RFC 1123, reads as that date in every present year
pub text-of-date : (y : ℕ) → PresentYear y → (f : Fields) → exists? f ≡ true
    → reading y (date_text (weekday (day_number f.year f.month f.day)) f) ≡ value (value_of f)
text-of-date y p f e =
    let k = weekday (day_number f.year f.month f.day) in
    reading_in y p (date_text k f) ∙ text-reads f k e refl y p

-- For every instant that the writer accepts:
module _ (s : ℤ) (e : in_range? s ≡ true) where
  same-day : weekday_at s ≡ weekday (day_number (fields_at s).year (fields_at s).month (fields_at s).day)
  same-day = ap weekday_at (sym (same-seconds s e)) ∙ same-weekday (fields_at s) (fields_exist s e)

  -- "The writer gives the 29 bytes of the RFC 1123 form": a text of that form alone, whose parts say the instant's day of week and fields,
  -- whatever two digits of a year would mean
  pub written-form : (length (instant_text s) ≡ 29)
      × ((ps : List (Part Name)) × Parses rfc1123_date 0 (instant_text s) ps
      × ((years : ℕ → ℕ) → said years ps ≡ record { named = weekday_at s; fields = fields_at s }))
  written-form =
      let k = weekday_at s in
      let f = fields_at s in
      let x = fields_exist s e in
      (text_length s k f, (text_parts f k x same-day, text_parses f k x same-day, text_says f k x same-day))

  -- what is written reads back as the same instant in every present year
  pub reads-back : (y : ℕ) → PresentYear y → reading y (instant_text s) ≡ value (record { fields = fields_at s; seconds = s })
  reads-back y p =
      reading_in y p (instant_text s) ∙ text-reads (fields_at s) (weekday_at s) (fields_exist s e) same-day y p
      ∙ ap (λ (z : ℤ). value (record { fields = fields_at s; seconds = z })) (same-seconds s e)

  -- "they write at the front of the output, keep the rest and give the length": in room enough the answer is 29, and the first 29 bytes of
  -- the output afterwards read as that instant, whatever stood there before
  pub reads-back_in_room : (y : ℕ) → PresentYear y → (old : List ℕ) → 29 ≤ length old → (date_writing s (length old) ≡ value 29)
      × (reading y (take 29 (date_output s old)) ≡ value (record { fields = fields_at s; seconds = s }))
  reads-back_in_room y p old h =
      let w = stands s old e h in
      (w.0, ap (reading y) w.1 ∙ reads-back y p)
