-- The text of a date is of the form of RFC 1123, and its parts say that date.
use Prim.Native.Nat.{ℕ, zero, suc, ◌-◌, ◌/◌, ◌≤◌, ◌<◌}
use native.Mathlib.Omega.{arith}
use mathlib.Core.Path.{◌≡◌, refl, sym, subst}
use mathlib.Core.Logic.{inl, inr}
use mathlib.Core.Bool.{true}
use mathlib.Core.List.{List, [], ◌∷◌}
use lib.Dec.{T}
use Rattle.grammar.specs.Grammar.{Part, Grammar, Parses, empty, byte, part, ◌⨾◌}
use Rattle.grammar.specs.Text.{bytes}
use Rattle.octets.specs.Bytes.{digit?}
use Rattle.octets.specs.Classes.{DIGIT}
use Rattle.calendar.specs.declared.Fields.{Fields}
use Rattle.calendar.specs.Gregorian as Gregorian
use Rattle.calendar.specs.Gregorian.{day_number, exists?}
use Rattle.date.specs.Grammar.{Name, weekday, month, day, year, hour, minute, second, two, four, months, rfc1123, rfc1123_date, said}
use Rattle.date.specs.Names.{month_names, day_names}
use Rattle.date_writer.specs.Writing.{tens, ones, date_text}
use Rattle.date.proofs.Months.{Of, mark, number_part, lit-of, name_of, month-word}
use Rattle.date_writer.proofs.Back as Back
use Rattle.date_writer.proofs.Back.{tens-is, ones_is, two_back, four-back}

-- ## Texts of the grammar's small forms

end : Of empty 29 [] []
end = record { is = (refl, refl) }

digit : (b : ℕ) → digit? b ≡ true → (i : ℕ) → Parses {L = Name} (byte DIGIT) i (b ∷ []) []
digit b e i = (b, refl, subst T (sym e) tt, refl)

-- the two and the four digits that the writer gives
two-of : {g : Grammar Name} {u : List ℕ} {ps : List (Part Name)} (l : Name) (n i : ℕ) → Of g (suc (suc i)) u ps
    → Of (two l g) i (tens n ∷ ones n ∷ u) (number_part l i (tens n ∷ ones n ∷ []) ∷ ps)
two-of {g} {u} {ps} l n i h =
    let t = digit (tens n) (tens-is n) i in
    let o = digit (ones n) (ones_is n) (suc i) in
    record {
      is = (
        tens n ∷ ones n ∷ [],
        u,
        number_part l i (tens n ∷ ones n ∷ []) ∷ [],
        ps,
        refl,
        refl,
        ([], refl, (tens n ∷ [], ones n ∷ [], [], [], refl, refl, t, o)),
        h.is,
      );
    }

four-of : {g : Grammar Name} {u : List ℕ} {ps : List (Part Name)} (l : Name) (c n i : ℕ) → Of g (suc (suc (suc (suc i)))) u ps
    → Of (four l g) i (tens c ∷ ones c ∷ tens n ∷ ones n ∷ u) (number_part l i (tens c ∷ ones c ∷ tens n ∷ ones n ∷ []) ∷ ps)
four-of {g} {u} {ps} l c n i h =
    let t = digit (tens n) (tens-is n) (suc (suc i)) in
    let o = digit (ones n) (ones_is n) (suc (suc (suc i))) in
    record {
      is = (
        tens c ∷ ones c ∷ tens n ∷ ones n ∷ [],
        u,
        number_part l i (tens c ∷ ones c ∷ tens n ∷ ones n ∷ []) ∷ [],
        ps,
        refl,
        refl,
        (
          [],
          refl,
          (
            tens c ∷ [],
            ones c ∷ tens n ∷ ones n ∷ [],
            [],
            [],
            refl,
            refl,
            digit (tens c) (tens-is c) i,
            (
              ones c ∷ [],
              tens n ∷ ones n ∷ [],
              [],
              [],
              refl,
              refl,
              digit (ones c) (ones_is c) (suc i),
              (tens n ∷ [], ones n ∷ [], [], [], refl, refl, t, o),
            ),
          ),
        ),
        h.is,
      );
    }

-- ## Names

month-of : {g : Grammar Name} {u : List ℕ} {ps : List (Part Name)} (m : ℕ) → 1 ≤ m → m ≤ 12 → (i : ℕ) → Of g (suc (suc (suc i))) u ps
    → Of (months ⨾ g) i (name_of month_names (m - 1) u) (mark (month m) (suc (suc (suc i))) ∷ ps)
month-of {g} {u} {ps} m a b i h = record {
  is = (name_of month_names (m - 1) [], u, mark (month m) (suc (suc (suc i))) ∷ [], ps, refl, refl, month-word m a b i, h.is);
}

module _ (u : List ℕ) (ps : List (Part Name)) (h : Of rfc1123 3 u ps) where
  named : (k : ℕ) → Of (part (weekday k) empty ⨾ rfc1123) 3 u (mark (weekday k) 3 ∷ ps)
  named k = record { is = ([], u, mark (weekday k) 3 ∷ [], ps, refl, refl, ([], refl, (refl, refl)), h.is) }

  day-word : (k : ℕ) → k < 7 → Parses rfc1123_date 0 (name_of day_names k u) (mark (weekday k) 3 ∷ ps)
  day-word zero low = inl (lit-of (bytes "Mon") tt 0 (named 0)).is
  day-word (suc zero) low = inr (inl (lit-of (bytes "Tue") tt 0 (named 1)).is)
  day-word (suc (suc zero)) low = inr (inr (inl (lit-of (bytes "Wed") tt 0 (named 2)).is))
  day-word (suc (suc (suc zero))) low = inr (inr (inr (inl (lit-of (bytes "Thu") tt 0 (named 3)).is)))
  day-word (suc (suc (suc (suc zero)))) low = inr (inr (inr (inr (inl (lit-of (bytes "Fri") tt 0 (named 4)).is))))
  day-word (suc (suc (suc (suc (suc zero))))) low = inr (inr (inr (inr (inr (inl (lit-of (bytes "Sat") tt 0 (named 5)).is)))))
  day-word (suc (suc (suc (suc (suc (suc zero)))))) low = inr (inr (inr (inr (inr (inr (lit-of (bytes "Sun") tt 0 (named 6)).is)))))
  day-word (suc (suc (suc (suc (suc (suc (suc n))))))) low = absurd (omega arith)

-- ## The whole text

module _ (f : Fields) (k : ℕ) (e : exists? f ≡ true) (w : k ≡ Gregorian.weekday (day_number f.year f.month f.day)) where
  abbrev pub text_parts : List (Part Name)
  text_parts =
      mark (weekday k) 3 ∷ number_part day 5 (tens f.day ∷ ones f.day ∷ []) ∷ mark (month f.month) 11
      ∷ number_part year 12 (tens (f.year / 100) ∷ ones (f.year / 100) ∷ tens f.year ∷ ones f.year ∷ [])
      ∷ number_part hour 17 (tens f.hour ∷ ones f.hour ∷ []) ∷ number_part minute 20 (tens f.minute ∷ ones f.minute ∷ [])
      ∷ number_part second 23 (tens f.second ∷ ones f.second ∷ []) ∷ []

  pub text_parses : Parses rfc1123_date 0 (date_text k f) text_parts
  unfolding date_text
  text_parses =
      let d = Back.date f k e w in
      let clock = two-of hour f.hour 17 (lit-of (bytes ":") tt 19 (two-of minute f.minute 20
      (lit-of (bytes ":") tt 22 (two-of second f.second 23 (lit-of (bytes " GMT") tt 25 end))))) in
      let from-year = lit-of (bytes " ") tt 11 (four-of year (f.year / 100) f.year 12 (lit-of (bytes " ") tt 16 clock)) in
      let from-month = month-of f.month d.from_january d.to_december 8 from-year in
      day-word _ _ (lit-of (bytes ", ") tt 3 (two-of day f.day 5 (lit-of (bytes " ") tt 7 from-month))) k (Back.low f k e w)

  pub text_says : (years : ℕ → ℕ) → said years text_parts ≡ record { named = k; fields = f }
  text_says years =
      let t = Back.time f k e w in
      rw (two_back f.day (Back.few-days f k e w), four-back f.year (Back.date f k e w).to_last, two_back f.hour (omega (arith, t.hours)))
      (rw (two_back f.minute (omega (arith, t.minutes)), two_back f.second (omega (arith, t.seconds))))
