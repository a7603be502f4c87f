-- Which year two digits mean: request (ii) of document 02. "By RFC 2616 19.3 a two-digit date that appears more than 50 years ahead is
-- past."
use Rattle.std.specs.Prelude.{ℕ, ◌+◌, ◌-◌, ◌*◌, ◌/◌, ◌%◌, ◌≤◌, ◌≡◌, Bool, cond, ◌&&◌, leb, ltb}

-- "Y is 1632 to 9949": Y is the present year
abbrev pub first_present_year : ℕ
first_present_year = 1632

abbrev pub last_present_year : ℕ
last_present_year = 9949

abbrev pub PresentYear : ℕ → Type 0
PresentYear y = (first_present_year ≤ y) × (y ≤ last_present_year)

abbrev pub present_year? : ℕ → Bool
present_year? y = leb first_present_year y && leb y last_present_year

-- "the year from Y-49 to Y+50 with those digits"
pub record Chosen (present digits year : ℕ) : Type 0 where
  pub earliest : present - 49 ≤ year
  pub latest : year ≤ present + 50
  pub ends : year % 100 ≡ digits

-- that year: in the century in which this window of a hundred years begins, or in the next where it would stand before the window
unfoldable pub full_year : (present digits : ℕ) → ℕ
full_year y n =
    let first = y - 49 in
    let year = first / 100 * 100 + n in
    cond (ltb year first) (year + 100) year

-- document 01: "A two-digit year from 70 to 99 means 1970 to 1999, and 00 to 69 means 2000 to 2069."
unfoldable pub base_year : (digits : ℕ) → ℕ
base_year n = cond (ltb n 70) (2000 + n) (1900 + n)
