-- The theorems of dates: what a customer reads. Y, the present year, is y.
use Prim.Native.Nat.{ℕ, suc, ◌+◌, ◌-◌, ◌*◌, ◌/◌, ◌%◌, ◌≤◌, ◌<◌}
use native.Mathlib.Omega.{arith}
use mathlib.Core.Path.{◌≡◌, refl, sym, ap, subst, ◌∙◌}
use mathlib.Core.Logic.{◌↔◌, ◌⊎◌, inl, inr}
use mathlib.Core.Bool.{true, false}
use mathlib.Core.List.{List, [], ◌∷◌}
use lib.ListN.{length}
use Rattle.grammar.specs.Grammar.{Part, Parses}
use Rattle.grammar.specs.Refusals.{NO_SUCH_DATE, WRONG_DAY_NAME}
use Rattle.grammar.specs.Reading.{value_limit, Sound, Verdict, value, refused, Answers, faulty, reads}
use Rattle.grammar.specs.Arguments.{Asked, in_range}
use Rattle.grammar.specs.helpers.Judge.{header}
use Rattle.grammar.proofs.Demands.{unlimited, answered_exactly, asked_exactly, one_parse}
use Rattle.octets.specs.Numbers.{number}
use Rattle.calendar.specs.Gregorian.{first_year, last_year, weekday, day_number, exists?}
use Rattle.calendar.proofs.Demands as Calendar
use Rattle.date.specs.declared.Date.{Date}
use Rattle.date.specs.Years.{PresentYear, present_year?, Chosen, full_year, base_year}
use Rattle.date.specs.Grammar.{Name, month, short-year, months, date, rfc1123_date, rfc850_date, asctime_date, Said, said, Among}
use Rattle.date.specs.Grammar.{value_of, rules, base_rules}
use Rattle.date.specs.Names.{month_names, first_name}
use Rattle.date.specs.Reading.{reading}
use Rattle.date.proofs.Months.{month-first, first-month}
use Rattle.date.proofs.Judged.{fault_nowhere, fault_wrong, fault-none, read_is}
use Rattle.date.proofs.Years.{is_present, not_present, reading_in, chosen_year, chosen_only, ahead_past, as_2019}
use Rattle.date.proofs.Forms.{one_way, one_of_three, any-of_three, Agree, said_same, agree_always, agree-full, same_answer}
use Rattle.date.proofs.Forms.{rfc1123-full, asctime-full}
use Rattle.date.proofs.ShortYears.{says-short-year}

-- What `read` answers (its promise is `reading y s`): the fields and the seconds of a well-formed date, or the refusal of the row that
-- applies first (9, then 13, then 1, then 3, then 4), and nothing else.
pub answers : (y : ℕ) (s : List ℕ) (v : Verdict Date) → (reading y s ≡ v) ↔ Asked ((1632 ≤ y) × (y ≤ 9949)) (Answers (rules y) s) v
answers y s =
    asked_exactly (PresentYear y) (Answers (rules y) s) (present_year? y) (is_present y) (not_present y) (header (rules y) s)
    (answered_exactly (rules y) tt tt one_way s)

-- "The first name in the month table that agrees with the three bytes gives the month number.": a text is a month, with that number, just
-- where it is of three bytes and a name agrees
pub month-number : (i : ℕ) (t : List ℕ) (ps : List (Part Name)) → Parses months i t ps
    ↔ ((k : ℕ) × (length t ≡ 3) × (first_name 1 month_names t ≡ suc k)
    × (ps ≡ record { label = month (suc k); start = suc (suc (suc i)); text = [] } ∷ []))
month-number i t ps = (month-first i t ps, first-month i t ps)

-- A date is of one of the three forms.
pub three_forms : (i : ℕ) (s : List ℕ) (ps : List (Part Name))
    → Parses date i s ps ↔ (Parses rfc1123_date i s ps ⊎ (Parses rfc850_date i s ps ⊎ Parses asctime_date i s ps))
three_forms i s ps = (one_of_three i s ps, any-of_three i s ps)

-- "choose the year from Y-49 to Y+50 with those digits": there is one, and no second.
pub only_year : (y n : ℕ) → PresentYear y → n < 100 → (year : ℕ) → Chosen y n year ↔ (year ≡ full_year y n)
only_year y n p h year =
    let late : 49 ≤ y = omega (arith, p.0) in
    (chosen_only y n late h year, λ e. subst (Chosen y n) (sym e) (chosen_year y n late h))

-- The years of a date, 1583 to 9999, hold them all: "Y is 1632 to 9949".
pub all-years : (y : ℕ) → PresentYear y ↔ ((n year : ℕ) → Chosen y n year → (first_year ≤ year) × (year ≤ last_year))
all-years y = (
  λ p n year c. (omega (arith, p.0, c.earliest), omega (arith, p.1, c.latest)),
  λ f. let first = f ((y - 49) % 100) (y - 49) (record { earliest = omega arith; latest = omega arith; ends = refl }) in
      let last = f ((y + 50) % 100) (y + 50) (record { earliest = omega arith; latest = omega arith; ends = refl }) in
      (omega (arith, first.0), omega (arith, last.1)),
)

-- "a two-digit date that appears more than 50 years ahead is past": where it does in the century of Y, a year before Y is meant.
pub ahead-is-past : (y n : ℕ) → PresentYear y → n < 100 → y + 50 < y / 100 * 100 + n → full_year y n < y
ahead-is-past y n p h = ahead_past y n (omega (arith, p.0)) h

-- What is read in a present year, and its parts.
module _ (y : ℕ) (s : List ℕ) (d : Date) (e : reading y s ≡ value d) where
  read-parts : (ps : List (Part Name)) → Parses date 0 s ps → PresentYear y × (d ≡ value_of (said (full_year y) ps).fields)
  read-parts ps p = asked d ((answers y s (value d)).0 e)
    where
      parts : (x : Date) → Answers (rules y) s (value x) → x ≡ value_of (said (full_year y) ps).fields
      parts x (reads {ps = qs} l q sound f) =
          ap (λ (rs : List (Part Name)). value_of (said (full_year y) rs).fields) (one_parse (rules y) tt tt one_way s qs ps q p)

      asked : (x : Date) → Asked (PresentYear y) (Answers (rules y) s) (value x)
          → PresentYear y × (x ≡ value_of (said (full_year y) ps).fields)
      asked x (in_range i a) = (i, parts x a)

  -- Of a date in the form of RFC 850, the year is the chosen one for the digits t that stand there.
  pub chosen_read : (ps : List (Part Name)) → Parses rfc850_date 0 s ps
      → (t : List ℕ) × Among short-year t ps × Chosen y (number t) d.fields.year
  chosen_read ps p =
      let r = read-parts ps (any-of_three 0 s ps (inr (inl p))) in
      let x = says-short-year s ps p in
      let year : d.fields.year ≡ full_year y (number x.0) = ap (λ (z : Date). z.fields.year) r.1 ∙ x.3 (full_year y) in
      (x.0, x.1, subst (Chosen y (number x.0)) (sym year) (chosen_year y (number x.0) (omega (arith, r.0.0)) x.2))

-- A well-formed date is judged by what its parts say.
module _ (x : Said) where
  abbrev day_of_week : ℕ
  day_of_week = weekday (day_number x.fields.year x.fields.month x.fields.day)

  -- 3 where there is no such date or time; 4 where there is and the named day is another; otherwise the date
  abbrev pub JudgedBy : Verdict Date → Type 0
  JudgedBy v =
      (exists? x.fields ≡ false → v ≡ refused NO_SUCH_DATE 0)
      × (exists? x.fields ≡ true → (x.named ≡ day_of_week → ⊥) → v ≡ refused WRONG_DAY_NAME 0)
      × (exists? x.fields ≡ true → x.named ≡ day_of_week → v ≡ value (value_of x.fields))

module _ (y : ℕ) (py : PresentYear y) (s : List ℕ) (short : length s ≤ value_limit) where
  unbroken : Sound (rules y) s (length s)
  unbroken = unlimited (rules y) (λ k ps. refl) s (length s)

  asked_for : (v : Verdict Date) → Answers (rules y) s v → reading y s ≡ v
  asked_for v a = reading_in y py s ∙ (answered_exactly (rules y) tt tt one_way s v).1 a

  pub well_formed : (ps : List (Part Name)) → Parses date 0 s ps → JudgedBy (said (full_year y) ps) (reading y s)
  well_formed ps p =
      let x = said (full_year y) ps in (
        λ e. asked_for (refused NO_SUCH_DATE 0) (faulty short p unbroken (fault_nowhere x.named x.fields e)),
        λ e n. asked_for (refused WRONG_DAY_NAME 0) (faulty short p unbroken (fault_wrong x.named x.fields e n)),
        λ e n. asked_for (value (value_of x.fields)) (reads short p unbroken (fault-none x.named x.fields e n)),
      )

  -- "Day names are checked against the chosen year.": in the form of RFC 850, with digits t, it is judged as in the chosen year.
  pub judged_by_chosen : (ps : List (Part Name)) → Parses rfc850_date 0 s ps
      → (t : List ℕ) × Among short-year t ps × ((year : ℕ) → Chosen y (number t) year → JudgedBy (said (λ n. year) ps) (reading y s))
  judged_by_chosen ps p =
      let x = says-short-year s ps p in
      let n = number x.0 in (
        x.0,
        x.1,
        λ year c. let same = chosen_only y n (omega (arith, py.0)) x.2 year c in
            subst (λ (z : Said). JudgedBy z (reading y s))
            (said_same (full_year y) (λ (m : ℕ). year) ps (x.4 (full_year y) (λ (m : ℕ). year) (sym same)))
            (well_formed ps (any-of_three 0 s ps (inr (inl p)))),
      )

-- "With 2019 the old results return.": whatever the bytes, the answer is that of document 01's rules.
pub with_2019 : (s : List ℕ) → reading 2019 s ≡ header base_rules s
with_2019 s = same_answer (full_year 2019) base_year s (λ ps p. agree_always (full_year 2019) base_year as_2019 ps)

-- Only the form of RFC 850 depends on Y.
module _ (y z : ℕ) (py : PresentYear y) (pz : PresentYear z) (s : List ℕ) where
  same_in_both : ((ps : List (Part Name)) → Parses date 0 s ps → Agree (full_year y) (full_year z) ps) → reading y s ≡ reading z s
  same_in_both agree = reading_in y py s ∙ same_answer (full_year y) (full_year z) s agree ∙ sym (reading_in z pz s)

  -- whatever is not in that form gets the same answer under every Y
  pub same-unless-rfc850 : ((ps : List (Part Name)) → Parses rfc850_date 0 s ps → ⊥) → reading y s ≡ reading z s
  same-unless-rfc850 none = same_in_both (λ ps p. go ps (one_of_three 0 s ps p))
    where
      go : (ps : List (Part Name)) → Parses rfc1123_date 0 s ps ⊎ (Parses rfc850_date 0 s ps ⊎ Parses asctime_date 0 s ps)
          → Agree (full_year y) (full_year z) ps
      go ps (inl p) = agree-full (full_year y) (full_year z) ps (rfc1123-full s ps p)
      go ps (inr (inl p)) = absurd (none ps p)
      go ps (inr (inr p)) = agree-full (full_year y) (full_year z) ps (asctime-full s ps p)

  -- and so does whatever is in one of the other two
  pub other-forms : (ps : List (Part Name)) → Parses rfc1123_date 0 s ps ⊎ Parses asctime_date 0 s ps → reading y s ≡ reading z s
  other-forms ps p =
      same_in_both (λ qs q. subst (Agree (full_year y) (full_year z)) (one_parse (rules y) tt tt one_way s ps qs (whole p) q) (full p))
    where
      whole : Parses rfc1123_date 0 s ps ⊎ Parses asctime_date 0 s ps → Parses date 0 s ps
      whole (inl m) = any-of_three 0 s ps (inl m)
      whole (inr m) = any-of_three 0 s ps (inr (inr m))

      full : Parses rfc1123_date 0 s ps ⊎ Parses asctime_date 0 s ps → Agree (full_year y) (full_year z) ps
      full (inl m) = agree-full (full_year y) (full_year z) ps (rfc1123-full s ps m)
      full (inr m) = agree-full (full_year y) (full_year z) ps (asctime-full s ps m)

-- "The result is the fields and the seconds since 1970-01-01 00:00:00": of whatever is read, fields and seconds determine each other, and
-- two dates are the same instant exactly when their seconds are equal, whichever present years they were read in.
pub same_instant : (y z : ℕ) (a b : List ℕ) (d e : Date) → reading y a ≡ value d → reading z b ≡ value e
    → (d.fields ≡ e.fields) ↔ (d.seconds ≡ e.seconds)
same_instant y z a b d e p q =
    let x = read_is y a d ((answers y a (value d)).0 p) in
    let u = read_is z b e ((answers z b (value e)).0 q) in
    let same = Calendar.same_instant d.fields e.fields x.0 u.0 in
    (λ h. x.1 ∙ same.0 h ∙ sym u.1, λ h. same.1 (sym x.1 ∙ h ∙ u.1))
