-- What the writer leaves in the lent bytes, and its answers.
use Prim.Native.Nat.{ℕ, ◌+◌, ◌-◌, ◌*◌, ◌/◌, ◌≤◌, ◌<◌}
use native.Mathlib.Omega.{arith}
use mathlib.Core.Path.{◌≡◌, refl, sym, ap, ◌∙◌}
use mathlib.Core.Bool.{Bool, true, false, cond, not}
use mathlib.Core.List.{List, [], ◌∷◌}
use lib.IntN.{ℤ}
use lib.ListN.{length, take}
use Rattle.grammar.specs.Reading.{value}
use Rattle.std.specs.Prelude.{Result, Ok, Err, Some, None}
use Rattle.octets.specs.declared.Refusal.{Refusal}
use Rattle.octets.specs.declared.Refusal.TheVariants.{OutOfRange, OutputTooShort}
use Rattle.octets.specs.Reading.{verdict}
use Rattle.octets.proofs.Writing as W
use Rattle.text.specs.Placing.{placed}
use Rattle.text.proofs.Placing.{placed-front}
use Rattle.calendar.specs.declared.Fields.{Fields}
use Rattle.calendar.specs.declared.Moment.{Moment}
use Rattle.calendar.specs.Instants.{in_range?, told, fields_at, weekday_at}
use Rattle.calendar.proofs.Dates.{date-of}
use Rattle.calendar.proofs.Demands.{fields_exist}
use Rattle.date.specs.Names.{month_names, day_names}
use Rattle.date_writer.specs.Writing.{tens, ones, letter, date_text, instant_text, date_writing, date_output}

-- the text, as its parts are found
pub text-found : (k : ℕ) (f : Fields) (l1 l2 l3 d1 d2 m1 m2 m3 y1 y2 y3 y4 h1 h2 i1 i2 s1 s2 : ℕ)
    → l1 ≡ letter day_names (3 * k)
    → l2 ≡ letter day_names (3 * k + 1)
    → l3 ≡ letter day_names (3 * k + 2)
    → d1 ≡ tens f.day
    → d2 ≡ ones f.day
    → m1 ≡ letter month_names (3 * (f.month - 1))
    → m2 ≡ letter month_names (3 * (f.month - 1) + 1)
    → m3 ≡ letter month_names (3 * (f.month - 1) + 2)
    → y1 ≡ tens (f.year / 100)
    → y2 ≡ ones (f.year / 100)
    → y3 ≡ tens f.year
    → y4 ≡ ones f.year
    → h1 ≡ tens f.hour
    → h2 ≡ ones f.hour
    → i1 ≡ tens f.minute
    → i2 ≡ ones f.minute
    → s1 ≡ tens f.second
    → s2 ≡ ones f.second
    → l1 ∷ l2 ∷ l3 ∷ 44 ∷ 32 ∷ d1 ∷ d2 ∷ 32 ∷ m1 ∷ m2 ∷ m3 ∷ 32 ∷ y1 ∷ y2 ∷ y3 ∷ y4 ∷ 32 ∷ h1 ∷ h2 ∷ 58 ∷ i1 ∷ i2 ∷ 58 ∷ s1 ∷ s2 ∷ 32 ∷ 71 ∷ 77 ∷ 84 ∷ []
    ≡ date_text k f
unfolding date_text
text-found k f l1 l2 l3 d1 d2 m1 m2 m3 y1 y2 y3 y4 h1 h2 i1 i2 s1 s2 e0 e1 e2 e3 e4 e5 e6 e7 e8 e9 e10 e11 e12 e13 e14 e15 e16 e17 =
    rw (e0, e1, e2, e3, e4, e5, e6, e7, e8, e9, e10, e11, e12, e13, e14, e15, e16, e17)

-- ## The calendar's answer

module _ (s : ℤ) where
  pub told_is : (m : Moment) → Some m ≡ told s → (in_range? s ≡ true) × (m.fields ≡ fields_at s) × (m.weekday ≡ weekday_at s)
  unfolding told
  told_is m e = go (in_range? s) refl e
    where
      at : Moment
      at = record { fields = fields_at s; weekday = weekday_at s }

      go : (t : Bool) → in_range? s ≡ t → Some m ≡ cond t (Some at) None
          → (in_range? s ≡ true) × (m.fields ≡ fields_at s) × (m.weekday ≡ weekday_at s)
      go true d e = let is : m ≡ at = cc in (d, ap (λ (x : Moment). x.fields) is, ap (λ (x : Moment). x.weekday) is)
      go false d e = absurd (let z : ◌≡◌ {A = ℕ} 0 1 = cc in omega arith)

  pub told-outside : None ≡ told s → in_range? s ≡ false
  unfolding told
  told-outside e = go (in_range? s) refl e
    where
      at : Moment
      at = record { fields = fields_at s; weekday = weekday_at s }

      go : (t : Bool) → in_range? s ≡ t → None ≡ cond t (Some at) None → in_range? s ≡ false
      go true d e = absurd (let z : ◌≡◌ {A = ℕ} 0 1 = cc in omega arith)
      go false d e = d

  weekday-small : weekday_at s < 7
  unfolding weekday_at
  weekday-small = omega arith

  -- a day of the week and a month of the tables
  pub in_tables : (m : Moment) → Some m ≡ told s → (m.weekday < 7) × (1 ≤ m.fields.month) × (m.fields.month ≤ 12)
  in_tables m e =
      let t = told_is m e in
      let d = date-of (fields_at s) (fields_exist s t.0) in (
        omega (arith, weekday-small, t.2),
        omega (arith, ap (λ (x : Fields). x.month) t.1, d.from_january),
        omega (arith, ap (λ (x : Fields). x.month) t.1, d.to_december),
      )

  -- ## The answers

  pub text_length : (k : ℕ) (f : Fields) → length (date_text k f) ≡ 29
  unfolding date_text
  text_length k f = refl

  module _ (old : List ℕ) where
    abbrev pub Answered : Result ℕ Refusal → List ℕ → Type 0
    Answered r new = (verdict r ≡ date_writing s (length old)) × (new ≡ date_output s old)

    long : length (instant_text s) ≡ 29
    long = text_length (weekday_at s) (fields_at s)

    pub refuses-range : None ≡ told s → Answered (Err OutOfRange) old
    refuses-range h = W.refuses-argument (not (in_range? s)) (instant_text s) old (ap not (told-outside h))

    pub refuses-short : (m : Moment) → Some m ≡ told s → length old < 29 → Answered (Err OutputTooShort) old
    refuses-short m t h = W.refuses-short (not (in_range? s)) (instant_text s) old (ap not (told_is m t).0) (omega (arith, long))

    pub writes : (m : Moment) → Some m ≡ told s → 29 ≤ length old → (text new : List ℕ) → text ≡ date_text m.weekday m.fields
        → new ≡ placed old 0 text → Answered (Ok 29) new
    writes m t h text new e p =
        let q = told_is m t in
        let x : text ≡ instant_text s = e ∙ ap (λ (k : ℕ). date_text k m.fields) q.2 ∙ ap (date_text (weekday_at s)) q.1 in
        W.writes-all (not (in_range? s)) (instant_text s) old 29 new (sym long) (ap not q.0) (omega (arith, long))
        (p ∙ ap (placed old 0) x ∙ placed-front old (instant_text s) (omega (arith, long)))

    -- in room enough, the answer is 29, and the front of the output is the text
    pub stands : in_range? s ≡ true → 29 ≤ length old → (date_writing s (length old) ≡ value 29) × (take 29 (date_output s old) ≡ instant_text s)
    stands e h =
        let w = W.stands_in_front (not (in_range? s)) (instant_text s) old (ap not e) (omega (arith, long)) in
        (w.0 ∙ ap value long, ap (λ (n : ℕ). take n (date_output s old)) (sym long) ∙ w.1)
