-- A well-formed date: what the calendar makes of it.
use Prim.Native.Nat.{ℕ}
use native.Mathlib.Omega.{arith}
use borrow.Author.Tests.{eq-eqb, ne_eqb}
use mathlib.Core.Path.{◌≡◌, refl, sym, ap, ◌∙◌}
use mathlib.Core.Bool.{Bool, true, false, cond}
use mathlib.Core.List.{List}
use mathlib.Core.Option.{Option, none, some}
use lib.Dec.{eqb}
use Rattle.std.specs.Prelude as Std
use Rattle.std.specs.Prelude.{Some, None}
use lib.IntN.{ℤ, pos, negsuc}
use mir.Syntax.{w64}
use mir.Val.{SFits, to_z, of_z}
use mir.Facts.{to_z-of_z}
use Rattle.grammar.specs.Reading.{Fault, value, refused, no-such-date, wrong-day, Answers, reads}
use Rattle.grammar.specs.Arguments.{Asked, in_range as argument-in-range}
use Rattle.grammar.specs.helpers.Judge.{unless_fault}
use Rattle.calendar.specs.declared.Fields.{Fields}
use Rattle.calendar.specs.declared.Instant.{Instant}
use Rattle.calendar.specs.Gregorian as Gregorian
use Rattle.calendar.specs.Gregorian.{day_number, exists?}
use Rattle.calendar.specs.Instants.{seconds_of, located, in_range?}
use Rattle.calendar.proofs.Demands.{in_range}
use Rattle.calendar.proofs.Signed.{late, early}
use Rattle.date.specs.declared.Date.{Date}
use Rattle.date.specs.Years.{PresentYear, full_year}
use Rattle.date.specs.Grammar.{fault_of, said, value_of, rules}
use Rattle.date.specs.helpers.Scan.{judged}

range-fits : (s : ℤ) → in_range? s ≡ true → SFits w64 s
range-fits (pos n) e = record { sfits = omega (arith, late n e) }
range-fits (negsuc n) e = record { sfits = omega (arith, early n e) }

-- the faults, by what the calendar says
module _ (k : ℕ) (f : Fields) where
  pub fault_nowhere : exists? f ≡ false → fault_of k f ≡ some no-such-date
  unfolding fault_of
  fault_nowhere e = rw e

  module _ (e : exists? f ≡ true) where
    pub fault_wrong : (k ≡ Gregorian.weekday (day_number f.year f.month f.day) → ⊥) → fault_of k f ≡ some wrong-day
    unfolding fault_of
    fault_wrong n = rw (e, ne_eqb k (Gregorian.weekday (day_number f.year f.month f.day)) n)

    pub fault-none : k ≡ Gregorian.weekday (day_number f.year f.month f.day) → fault_of k f ≡ none
    unfolding fault_of
    fault-none n = rw (e, eq-eqb k (Gregorian.weekday (day_number f.year f.month f.day)) n)

module _ (f : Fields) where
  abbrev day_of_week : ℕ
  day_of_week = Gregorian.weekday (day_number f.year f.month f.day)

  pub located-is : (i : Instant) → Some i ≡ located f
      → (exists? f ≡ true) × (i.seconds ≡ seconds_of f) × (i.weekday ≡ Gregorian.weekday (day_number f.year f.month f.day))
  unfolding located
  located-is i e = go (exists? f) refl e
    where
      go : (t : Bool) → exists? f ≡ t → ◌≡◌ {A = Std.Option Instant} (Some i) (cond t (Some (record { seconds = seconds_of f; weekday = Gregorian.weekday (day_number f.year f.month f.day) })) None)
          → (exists? f ≡ true) × (i.seconds ≡ seconds_of f) × (i.weekday ≡ Gregorian.weekday (day_number f.year f.month f.day))
      go true d e = (d, cc, cc)
      go false d e = absurd (let z : ◌≡◌ {A = ℕ} 0 1 = cc in omega arith)

  nowhere_is : None ≡ located f → exists? f ≡ false
  unfolding located
  nowhere_is e = go (exists? f) refl e
    where
      go : (t : Bool) → exists? f ≡ t → ◌≡◌ {A = Std.Option Instant} None (cond t (Some (record { seconds = seconds_of f; weekday = Gregorian.weekday (day_number f.year f.month f.day) })) None)
          → exists? f ≡ false
      go true d e = absurd (let z : ◌≡◌ {A = ℕ} 0 1 = cc in omega arith)
      go false d e = d

  -- the answer, where the fault is known
  by_fault : (k : ℕ) (o : Option Fault) → fault_of k f ≡ o → unless_fault o (value_of f) ≡ judged k f
  unfolding judged
  by_fault k o e = ap (λ (x : Option Fault). unless_fault x (value_of f)) (sym e)

  pub judged_nowhere : (k : ℕ) → None ≡ located f → refused 3 0 ≡ judged k f
  judged_nowhere k e = by_fault k (some no-such-date) (fault_nowhere k f (nowhere_is e))

  module _ (k : ℕ) (i : Instant) (e : Some i ≡ located f) where
    pub judged_wrong : (i.weekday ≡ k → ⊥) → refused 4 0 ≡ judged k f
    judged_wrong n =
        let l = located-is i e in
        by_fault k (some wrong-day) (fault_wrong k f l.0 (λ q. n (l.2 ∙ sym q)))

    pub judged-right : i.weekday ≡ k → value (record { fields = f; seconds = to_z w64 (of_z w64 i.seconds) }) ≡ judged k f
    judged-right n =
        let l = located-is i e in
        let b : SFits w64 (seconds_of f) = range-fits (seconds_of f) (in_range f l.0) in
        ap (λ (z : ℤ). value (record { fields = f; seconds = z })) (ap (λ (z : ℤ). to_z w64 (of_z w64 z)) l.1 ∙ to_z-of_z b)
        ∙ by_fault k none (fault-none k f l.0 (sym n ∙ l.2))

  pub judged-well : (k : ℕ) → exists? f ≡ true → k ≡ Gregorian.weekday (day_number f.year f.month f.day) → judged k f ≡ value (value_of f)
  judged-well k e w = sym (by_fault k none (fault-none k f e w))

-- a date without a fault exists
pub no_fault : (k : ℕ) (f : Fields) → fault_of k f ≡ none → exists? f ≡ true
unfolding fault_of
no_fault k f e = go (exists? f) refl e
  where
    go : (t : Bool) → exists? f ≡ t → cond t (cond (eqb k (Gregorian.weekday (day_number f.year f.month f.day))) none (some wrong-day)) (some no-such-date) ≡ none → exists? f ≡ true
    go true d e = d
    go false d e = absurd (let z : ◌≡◌ {A = ℕ} 0 1 = cc in omega arith)

-- what is read is a date that exists, and its seconds
pub read_is : (y : ℕ) (s : List ℕ) (d : Date) → Asked (PresentYear y) (Answers (rules y) s) (value d)
    → (exists? d.fields ≡ true) × (d.seconds ≡ seconds_of d.fields)
read_is y s d (argument-in-range i a) = go d a
  where
    go : (d : Date) → Answers (rules y) s (value d) → (exists? d.fields ≡ true) × (d.seconds ≡ seconds_of d.fields)
    go d (reads {ps} h p t f) = (no_fault (said (full_year y) ps).named (said (full_year y) ps).fields f, refl)
