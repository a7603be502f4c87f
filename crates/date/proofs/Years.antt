-- The year that two digits mean.
use Prim.Native.Nat.{ℕ, ◌+◌, ◌-◌, ◌*◌, ◌/◌, ◌≤◌, ◌<◌}
use native.Mathlib.Omega.{arith}
use borrow.Author.Tests.{leb-true, leb-false, ltb-true, ltb-false, lt-ltb, le-ltb, le-leb}
use mathlib.Core.Path.{◌≡◌, refl, sym, ap}
use mathlib.Core.Bool.{Bool, true, false, cond, ◌&&◌, true≢false}
use mathlib.Core.List.{List}
use lib.Dec.{leb, ltb}
use Rattle.grammar.specs.Refusals.{OUT_OF_RANGE}
use Rattle.grammar.specs.Reading.{refused}
use Rattle.grammar.specs.helpers.Judge.{header}
use Rattle.date.specs.Years.{first_present_year, last_present_year, PresentYear, present_year?, Chosen, full_year, base_year}
use Rattle.date.specs.Grammar.{rules}
use Rattle.date.specs.Reading.{reading}

-- ## The range of the present year

pub is_present : (y : ℕ) → present_year? y ≡ true → PresentYear y
is_present y e = go (leb first_present_year y) refl e
  where
    go : (t : Bool) → leb first_present_year y ≡ t → t && leb y last_present_year ≡ true → PresentYear y
    go true f e = (leb-true first_present_year y f, leb-true y last_present_year e)
    go false f e = absurd (true≢false (sym e))

pub present_is : (y : ℕ) → PresentYear y → present_year? y ≡ true
present_is y p = rw (le-leb first_present_year y p.0, le-leb y last_present_year p.1)

pub not_present : (y : ℕ) → present_year? y ≡ false → PresentYear y → ⊥
not_present y e p = go (leb first_present_year y) refl e
  where
    go : (t : Bool) → leb first_present_year y ≡ t → t && leb y last_present_year ≡ false → ⊥
    go true f e = omega (arith, leb-false y last_present_year e, p.1)
    go false f e = omega (arith, leb-false first_present_year y f, p.0)

-- ## The answer within it and outside of it

module _ (y : ℕ) (s : List ℕ) where
  pub reading-within : present_year? y ≡ true → header (rules y) s ≡ reading y s
  reading-within e = sym (ap (λ (t : Bool). cond t (header (rules y) s) (refused OUT_OF_RANGE 0)) e)

-- in a present year within its range
pub reading_in : (y : ℕ) → PresentYear y → (s : List ℕ) → reading y s ≡ header (rules y) s
reading_in y p s = sym (reading-within y s (present_is y p))

-- ## The year of the window

module _ (y n : ℕ) (late : 49 ≤ y) (two : n < 100) where
  abbrev here : ℕ
  here = (y - 49) / 100 * 100 + n

  pub chosen_year : Chosen y n (full_year y n)
  unfolding full_year
  chosen_year = go (ltb here (y - 49)) refl
    where
      go : (t : Bool) → ltb here (y - 49) ≡ t → Chosen y n (cond t (here + 100) here)
      go true e =
          let l = ltb-true here (y - 49) e in
          record { earliest = omega arith; latest = omega arith; ends = omega arith }
      go false e =
          let l = ltb-false here (y - 49) e in
          record { earliest = omega arith; latest = omega arith; ends = omega arith }

  pub chosen_only : (year : ℕ) → Chosen y n year → year ≡ full_year y n
  chosen_only year c = only year (full_year y n) c chosen_year
    where
      only : (a b : ℕ) → Chosen y n a → Chosen y n b → a ≡ b
      only a b c d = omega (arith, c.earliest, c.latest, c.ends, d.earliest, d.latest, d.ends)

  -- a year that stands more than 50 years ahead in the present century stands before the present year
  pub ahead_past : y + 50 < y / 100 * 100 + n → full_year y n < y
  ahead_past h = past (full_year y n) chosen_year
    where
      past : (a : ℕ) → Chosen y n a → a < y
      past a c = omega (arith, c.earliest, c.latest, c.ends)

pub as_2019 : (n : ℕ) → full_year 2019 n ≡ base_year n
unfolding full_year base_year
as_2019 n = go (ltb n 70) refl
  where
    go : (t : Bool) → ltb n 70 ≡ t → cond (ltb (1900 + n) 1970) (1900 + n + 100) (1900 + n) ≡ cond t (2000 + n) (1900 + n)
    go true e = rw (lt-ltb (1900 + n) 1970 (omega (arith, ltb-true n 70 e))) (omega arith)
    go false e = rw (le-ltb (1900 + n) 1970 (omega (arith, ltb-false n 70 e)))
