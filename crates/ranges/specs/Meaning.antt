-- What byte ranges mean (RFC 2616 14.35.1), and what they come to in an entity of n bytes, the first of which has the position 0.
use Rattle.std.specs.Prelude.{ℕ, suc, ◌+◌, ◌-◌, ◌≤◌, ◌<◌, min, cond, List, [], ◌∷◌, ◌++◌, ◌⊎◌, ◌↔◌, ltb, length}
use Rattle.ranges.specs.declared.Element.{Element}
use Rattle.ranges.specs.declared.Element.TheVariants.{Closed, Open, Suffix}
use Rattle.ranges.specs.declared.Range.{Range}

-- the byte at p is one that the element asks for: from a first to a last position, from a first one on, or among so many at the end
abbrev pub Selects : ℕ → Element → ℕ → Type 0
Selects n (Closed first last) p = (p < n) × (first ≤ p) × (p ≤ last)
Selects n (Open first) p = (p < n) × (first ≤ p)
Selects n (Suffix size) p = (p < n) × (n ≤ p + size)

-- its last position is not below its first
abbrev pub Forward : Element → Type 0
Forward (Closed first last) = first ≤ last
Forward (Open first) = Unit
Forward (Suffix size) = Unit

-- the byte at p is one of the range
abbrev pub Covers : Range → ℕ → Type 0
Covers r p = (r.first ≤ p) × (p ≤ r.last)

-- the range is not empty and lies in an entity of n bytes
abbrev pub InEntity : ℕ → Range → Type 0
InEntity n r = (r.first ≤ r.last) × (r.last < n)

-- one of the list is such; each of the list is
abbrev pub Some : {A : Type 0} → (A → Type 0) → List A → Type 0
Some P [] = ⊥
Some P (x ∷ xs) = P x ⊎ Some P xs

abbrev pub Each : {A : Type 0} → (A → Type 0) → List A → Type 0
Each P [] = Unit
Each P (x ∷ xs) = P x × Each P xs

-- The ranges that serve elements, in the order of the elements: one that asks for no byte of the entity is left out, and any other one has
-- a range of its own, which is just its bytes.
pub data Served (n : ℕ) : List Element → List Range → Type 0 where
  done : Served n [] []
  left_out : {x : Element} {xs : List Element} {rs : List Range} → ((p : ℕ) → Selects n x p → ⊥) → Served n xs rs → Served n (x ∷ xs) rs
  served : {x : Element} {r : Range} {xs : List Element} {rs : List Range} → InEntity n r → ((p : ℕ) → Covers r p ↔ Selects n x p)
      → Served n xs rs → Served n (x ∷ xs) (r ∷ rs)

-- ## Resolved

-- where the range of an element begins, and the position behind its end: "a last beyond the end is cut, a longer suffix is the whole
-- entity"
abbrev pub begin : ℕ → Element → ℕ
begin n (Closed first last) = first
begin n (Open first) = first
begin n (Suffix size) = n - size

abbrev pub end : ℕ → Element → ℕ
end n (Closed first last) = min (suc last) n
end n (Open first) = n
end n (Suffix size) = n

-- "an empty range is left out"
abbrev pub kept : (begin end : ℕ) → List Range
kept b e = cond (ltb b e) (record { first = b; last = e - 1 } ∷ []) []

-- "The order sent is kept."
abbrev pub resolved : ℕ → List Element → List Range
resolved n [] = []
resolved n (x ∷ xs) = kept (begin n x) (end n x) ++ resolved n xs

-- so many ranges; "none left is "unsatisfiable""
pub data Ranges : Type 0 where
  satisfiable : (count : ℕ) → List Range → Ranges
  unsatisfiable : Ranges

abbrev pub answer : List Range → Ranges
answer [] = unsatisfiable
answer (r ∷ rs) = satisfiable (length (r ∷ rs)) (r ∷ rs)

abbrev pub ranges_in : Ranges → List Range
ranges_in (satisfiable count rs) = rs
ranges_in unsatisfiable = []
